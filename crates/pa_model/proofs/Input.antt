-- The lines of a text are played, each as soon as it is read.
use Rattle.std.proofs.Common.{◌≡◌, ℕ, List, [], ◌∷◌, ◌++◌, ap, sym, subst, ◌∙◌, arith}
use Rattle.std.specs.List.{AllByRecursion}
use Rattle.std.proofs.lemmas.List.{length_push}
use Rattle.pa_trace.specs.declared.line.Head.{Head}
use Rattle.pa_trace.specs.declared.script.Line.{Line}
use Rattle.pa_trace.specs.Limits.{IsLineWithin}
use Rattle.pa_trace.specs.Unread.{Unread, trace_with, IsReadUpTo, IsLineRead, IsEndRead}
use Rattle.pa_trace.specs.Rules.{rules_by}
use Rattle.pa_player.specs.Player.{Player}
use Rattle.pa_player.specs.Asks.{CanEnd}
use Rattle.pa_player.specs.Begun.{IsBegun}
use Rattle.pa_player.specs.Changes.{phase_ended}
use Rattle.pa_model.specs.Played.{IsAllTold, IsInputPlayed}
use Rattle.pa_player.specs.Playing.{IsPlaying}
use Rattle.pa_player.specs.Plays.{CanGoOn, IsReady, GoesOnTo, IsPlayedUpTo}
use Rattle.pa_player.specs.Told.{IsToldText}
use Rattle.pa_model.proofs.AllTold.{all_told}
use Rattle.pa_player.proofs.Reporting.{end_ready}
use Rattle.pa_player.proofs.Start.{begins_playing}
use Rattle.pa_player.proofs.Trace.{head_within}

-- what holds of a list holds of its last member
pub last_of : {A : Type 0} (P : A → Type 0) (ls : List A) (l : A) → AllByRecursion P (ls ++ l ∷ []) → P l
last_of P [] l h = h.0
last_of P (x ∷ ls) l h = last_of P ls l h.1

module _ (known : ℕ) (bytes : List ℕ) (u : Unread) (p : Player) where
  -- before the first line
  pub input_begins : (head : Head) → head ≡ u.head → IsReadUpTo known bytes [] u → IsBegun head p → IsPlayedUpTo known bytes u p
  input_begins head is read begun =
      let begun_here = subst (λ (h : Head). IsBegun h p) is begun in
      record { ls = []; read = read; rules = begun_here.rules; playing = begins_playing u.head p read.head begun_here }

  module _ (so_far : IsPlayedUpTo known bytes u p) where
    -- the line that was read can be played
    can : (l : Line) (v : Unread) → IsLineRead u l v → CanGoOn u.head.region u.head.partitions u.head.threads so_far.ls l p
    can l v line =
        let next = line.read known bytes so_far.ls so_far.read in
        let few = next.few in
        record {
          playing = so_far.playing;
          short = omega (arith, few, length_push so_far.ls l);
          within = subst (λ (h : Head). IsLineWithin h.partitions h.threads l) line.head
              (last_of (IsLineWithin v.head.partitions v.head.threads) so_far.ls l next.lines);
          head = head_within u.head p so_far.rules so_far.read.head;
        }

    pub input_ready : (l : Line) (v : Unread) → IsLineRead u l v → IsReady l p
    input_ready l v line =
        record { region = u.head.region; partitions = u.head.partitions; threads = u.head.threads; ls = so_far.ls; can = can l v line }

    -- after a line was read and the player went on over it, the input is played up to that line
    pub input_goes_on : (l : Line) (v : Unread) (q : Player) → IsLineRead u l v → GoesOnTo p l q → IsPlayedUpTo known bytes v q
    input_goes_on l v q line goes =
        let to = goes u.head.region u.head.partitions u.head.threads so_far.ls (can l v line) in
        record {
          ls = so_far.ls ++ l ∷ [];
          read = line.read known bytes so_far.ls so_far.read;
          rules = to.1 ∙ so_far.rules ∙ ap rules_by (sym line.head);
          playing = subst (λ (h : Head). IsPlaying h.region h.partitions h.threads (so_far.ls ++ l ∷ []) q) (sym line.head) to.0;
        }

    pub input_ends : CanEnd p
    input_ends =
        let few = so_far.read.few in
        end_ready u.head.region u.head.partitions u.head.threads so_far.ls p (omega (arith, few)) so_far.playing

    -- at the end the whole trace was played
    pub input_told : (v : Unread) → IsEndRead u v → IsAllTold (trace_with u.head so_far.ls) (phase_ended p).told
    input_told v end =
        let input = end.read known bytes so_far.ls so_far.read in
        all_told (trace_with u.head so_far.ls) p so_far.rules input.limits so_far.playing

    pub input_played : (v : Unread) (text : List ℕ) → IsEndRead u v → IsToldText (phase_ended p).told text → IsInputPlayed bytes text
    input_played v text end is =
        let all = input_told v end in
        record {
          trace = trace_with u.head so_far.ls;
          input = end.read known bytes so_far.ls so_far.read;
          played = record { run = is.run; file = all.file is.run is.lists; core = all.core is.run is.lists; printed = is.text };
        }
