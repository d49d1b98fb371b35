-- The lines of a trace are played one after the other.
use Rattle.std.proofs.Common.{◌≡◌, ℕ, ◌+◌, ◌-◌, ◌<◌, ◌≤◌, Option, Some, None, [], ◌∷◌, ◌++◌, length, take, get_or, sym, ap, ◌∙◌, subst, arith}
use Rattle.std.proofs.Math.Seq.{take_all}
use Rattle.std.proofs.lemmas.List.{length-take, take_more, length_push}
use Rattle.std.proofs.lemmas.List.Elements.{All-from_recursion, All-get_or}
use Rattle.pa_trace.specs.declared.line.Head.{Head}
use Rattle.pa_trace.specs.declared.script.Line.{Line}
use Rattle.pa_trace.specs.declared.script.Line.TheVariants.{Phase, Do}
use Rattle.pa_trace.specs.declared.script.Op.{Op}
use Rattle.pa_trace.specs.Limits.{IsLineWithin, IsWithinLimits}
use Rattle.pa_trace.specs.declared.script.Trace.{Trace}
use Rattle.pa_trace.specs.declared.script.Rules.{Rules}
use Rattle.pa_trace.specs.Grammar.{head_of_trace}
use Rattle.pa_trace.specs.Rules.{rules_by, rules_of}
use Rattle.pa_trace.proofs.Versions.{plain_most}
use Rattle.pa_record.specs.declared.entry.Answer.{Answer}
use Rattle.pa_player.specs.Player.{Player}
use Rattle.pa_player.specs.Playing.{rules_at, IsPlaying}
use Rattle.pa_trace.specs.Limits.{IsHeadWithin}
use Rattle.pa_player.specs.Plays.{CanGoOn, IsReady, GoesTo, GoesOnTo, Plays, head_to}

-- a player that plays by the rules of a head within the limits has a head within the limits
pub head_within : (h : Head) (p : Player) → rules_at p ≡ rules_by h → IsHeadWithin h →
    IsHeadWithin (head_to p h.region h.partitions h.threads)
head_within h p rules within =
    let P : Rules → Type 0 = λ r. IsHeadWithin (record {
      version = r.version;
      region = h.region;
      partitions = h.partitions;
      threads = h.threads;
      plain = h.partitions - r.plain_from;
    }) in
    subst P (sym rules) (within.0, within.1, within.2, omega (arith, within.3, plain_most h.version h.partitions))

-- the next line can be played
line_can : (t : Trace) (i : ℕ) (p : Player) (line d : Line) → rules_at p ≡ rules_of t → IsWithinLimits t → i < length t.lines →
    line ≡ get_or t.lines i d
    → IsPlaying t.region t.partitions t.threads (take i t.lines) p → CanGoOn t.region t.partitions t.threads (take i t.lines) line p
line_can t i p line d rules within lt is playing = record {
  playing = playing;
  short = let few = within.few in omega (arith, length-take i t.lines, lt, few);
  within = subst (IsLineWithin t.partitions t.threads) (sym is)
      (All-get_or (IsLineWithin t.partitions t.threads) t.lines i d lt
      (All-from_recursion (IsLineWithin t.partitions t.threads) t.lines within.lines));
  head = head_within (head_of_trace t) p rules within.head;
}

pub line_ready : (t : Trace) (i : ℕ) (p : Player) (line d : Line) → rules_at p ≡ rules_of t → IsWithinLimits t → i < length t.lines →
    line ≡ get_or t.lines i d
    → IsPlaying t.region t.partitions t.threads (take i t.lines) p → IsReady line p
line_ready t i p line d rules within lt is playing =
    record {
      region = t.region;
      partitions = t.partitions;
      threads = t.threads;
      ls = take i t.lines;
      can = line_can t i p line d rules within lt is playing;
    }

-- if the first lines of a trace were played and then the next one, one more of its first lines were played
pub line_more : (t : Trace) (i : ℕ) (p q : Player) (line d : Line) → rules_at p ≡ rules_of t → IsWithinLimits t → i < length t.lines →
    line ≡ get_or t.lines i d
    → IsPlaying t.region t.partitions t.threads (take i t.lines) p → GoesOnTo p line q
    → IsPlaying t.region t.partitions t.threads (take (i + 1) t.lines) q × (rules_at q ≡ rules_of t)
line_more t i p q line d rules within lt is playing goes =
    let whole : take (i + 1) t.lines ≡ take i t.lines ++ line ∷ [] = take_more t.lines i d lt ∙
    ap (λ z. take i t.lines ++ z ∷ []) (sym is) in
    let to = goes t.region t.partitions t.threads (take i t.lines) (line_can t i p line d rules within lt is playing) in
    (subst (λ z. IsPlaying t.region t.partitions t.threads z q) (sym whole) to.0, to.1 ∙ rules)

-- whatever it was answered
pub goes_on : (p : Player) (l : Line) (a : Option Answer) (q : Player) → GoesTo p l a q → GoesOnTo p l q
goes_on p Phase None q goes = λ region partitions threads ls can. let to = goes region partitions threads ls can in (to.0, to.1.rules)
goes_on p Phase (Some answer) q goes = absurd goes
goes_on p (Do thread op) None q goes = absurd goes
goes_on p (Do thread op) (Some answer) q goes = λ region partitions threads ls can. let to = goes region partitions threads ls can in
    (to.0, to.1.rules)

-- once the index is past the lines, all lines of the trace were played
pub all_played : (t : Trace) (i : ℕ) (p : Player) → length t.lines ≤ i → IsPlaying t.region t.partitions t.threads (take i t.lines) p →
    IsPlaying t.region t.partitions t.threads t.lines p
all_played t i p past playing = subst (λ z. IsPlaying t.region t.partitions t.threads z p) (take_all i t.lines past) playing

-- the line that was played has a number that fits
pub line_few : (p : Player) (thread : ℕ) (op : Op) (q : Player) (answer : Answer) → IsReady (Do thread op) p → Plays p thread op q answer →
    q.told.line ≤ 65537
line_few p thread op q answer ready played =
    let next = (played ready.region ready.partitions ready.threads ready.ls ready.can).0 in
    let line = next.line in
    let short = ready.can.short in
    let more = length_push ready.ls (Do thread op) in
    omega arith
