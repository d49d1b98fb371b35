-- The lines of a script's text are played, each as soon as it is read.
use Rattle.std.proofs.Common.{◌≡◌, ℕ, ◌+◌, ◌≤◌, List, [], ◌∷◌, ◌++◌, length, Option, refl, sym, ap, subst, ◌∙◌, arith}
use Rattle.std.proofs.lemmas.List.{length_push}
use Rattle.pa_trace.specs.declared.line.Head.{Head}
use Rattle.pa_trace.specs.Unread.{Unread}
use Rattle.pa_trace.proofs.Lengths.{trace_length}
use Rattle.pa_trace.proofs.Versions.{first_is}
use Rattle.pa_script.specs.declared.script.Script.{Script}
use Rattle.pa_script.specs.declared.script.ScriptLine.{ScriptLine}
use Rattle.pa_script.specs.Limits.{IsScriptLineWithin}
use Rattle.pa_script.specs.Unread.{script_with, IsScriptReadUpTo, IsScriptLineRead, IsScriptEndRead}
use Rattle.pa_model.specs.Player.{Player, trace_so_far, IsNew, IsPrinted}
use Rattle.pa_model.proofs.Input.{last_of}
use Rattle.pa_resize.specs.declared.verdict.Verdict.{Verdict}
use Rattle.pa_resize.specs.Expansion.{verdict_noted, IsInputExpanded}
use Rattle.pa_resize.specs.Playing.{PlaysScriptLine, IsScriptPlayed, IsInputPlayedTo, script_head}
use Rattle.pa_resize.proofs.Scripts.{script_begins, script_more, script_ends}

module _ (bytes : List ℕ) (u : Unread) (p : Player) where
  -- before the first line
  pub input_begins : (head : Head) → head ≡ u.head → IsScriptReadUpTo bytes [] u → IsNew head p → IsInputPlayedTo bytes u p
  input_begins head is read new =
      record { lines = []; verdicts = []; read = read; played = script_begins u.head p (subst (λ (h : Head). IsNew h p) is new) }

  module _ (so_far : IsInputPlayedTo bytes u p) where
    module _ (l : ScriptLine) (v : Unread) (line : IsScriptLineRead u l v) where
      -- the line that was read can be played
      pub input_few : length p.lines.items + 6 ≤ 65535
      input_few =
          let next = line.read bytes so_far.lines so_far.read in
          omega (arith, so_far.played.few, next.few, length_push so_far.lines l)

      pub input_within : IsScriptLineWithin p.lines.head.partitions p.lines.head.threads l
      input_within =
          let next = line.read bytes so_far.lines so_far.read in
          let one = last_of (IsScriptLineWithin v.head.partitions v.head.threads) so_far.lines l next.lines in
          subst (λ (h : Head). IsScriptLineWithin h.partitions h.threads l) (line.head ∙ sym so_far.played.head) one

      -- after a script line was read and the player played it, the script is played up to that line
      pub input_more : (q : Player) (verdict : Option Verdict) → PlaysScriptLine p l verdict q → IsInputPlayedTo bytes v q
      input_more q verdict step =
          let n : ℕ = length so_far.lines + 2 in
          let more = so_far.verdicts ++ verdict_noted n verdict in
          record {
            lines = so_far.lines ++ l ∷ [];
            verdicts = more;
            read = line.read bytes so_far.lines so_far.read;
            played = subst (λ (h : Head). IsScriptPlayed h (so_far.lines ++ l ∷ []) q more) (sym line.head)
                (script_more u.head so_far.lines p q so_far.verdicts more l n verdict so_far.played step refl refl);
          }

    -- at the end the texts are those of what the script comes to
    pub input_expanded : (v : Unread) (front text : List ℕ) → IsScriptEndRead u v → IsPrinted p front text →
        IsInputExpanded bytes front text
    input_expanded v front text end is =
        let s : Script = script_with u.head so_far.lines in
        let limits = so_far.played.going.within in
        let first : u.head ≡ script_head s = first_is u.head so_far.read.version so_far.read.head in
        let played = subst (λ (h : Head). IsScriptPlayed h so_far.lines p so_far.verdicts) first so_far.played in
        record {
          script = s;
          input = end.read bytes so_far.lines so_far.read;
          expanded = record {
            trace = trace_so_far p;
            run = is.run;
            verdicts = so_far.verdicts;
            expanded = script_ends s p (trace_so_far p) is.run so_far.verdicts played is.finished;
            core = is.finished.core;
            traced = record { limits = limits; text = is.traced; short = trace_length (trace_so_far p) front limits is.traced };
            printed = is.printed;
          };
        }
