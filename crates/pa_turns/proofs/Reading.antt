-- What each read gave, where the lines are played one after the other: the content, or poison if the slot was freed.
use Rattle.std.proofs.Common.{◌≡◌, ℕ, List, refl, ◌∙◌, ap, subst, inl, inr}
use Rattle.std.specs.Prelude.{Contains}
use Rattle.pa_slot.specs.declared.word.SlotName.{SlotName}
use Rattle.pa_slot.specs.Count.{number_of}
use Rattle.pa_trace.specs.declared.script.Trace.{Trace}
use Rattle.pa_trace.specs.declared.script.Op.TheVariants as ops
use Rattle.pa_record.specs.declared.entry.Answer.{Answer}
use Rattle.pa_record.specs.declared.entry.Answer.TheVariants as answers
use Rattle.pa_lists.proofs.Joined.{map_cases, map_in}
use Rattle.pa_rules.specs.declared.played.Played.{Played}
use Rattle.pa_rules.specs.Contents.{IsMadeAt, IsWrittenAt, IsWrittenFor, IsContent, IsReadExact, AreExactContents}
use Rattle.pa_rules.specs.Told.{Told}
use Rattle.pa_region.specs.declared.view.View.{View}
use Rattle.pa_logs.specs.Told.{ToldRecord, played_in}
use Rattle.pa_logs.specs.Touches.{IsToldBy}
use Rattle.pa_logs.specs.InTurn.{TurnsSay}
use Rattle.pa_logs.specs.Said.{sizes_in, LayersSay}
use Rattle.pa_logs.proofs.Listing.{one_record}
use Rattle.pa_logs.proofs.Reading.{reads_follow}
use Rattle.pa_logs.proofs.Saying.{rising}
use Rattle.pa_turns.proofs.Turned.{turned, in_turn, each_played, read_off}

-- ---- contents speak of no phase

-- what was made and written is the same by the records with their lines in place of their phases
made_turned : (ts : List ToldRecord) (s : SlotName) (n : ℕ) → IsMadeAt (played_in ts) s n → IsMadeAt (played_in (in_turn ts)) s n
made_turned ts s n (x, seen, usable, among, answer, slot, number) =
    let (y, there, same) = map_cases (λ (z : ToldRecord). z.played) ts x among in (
      (turned y).played,
      seen,
      usable,
      map_in (λ (z : ToldRecord). z.played) (in_turn ts) (turned y) (map_in turned ts y there),
      ap (λ (p : Played). p.answer) same ∙ answer,
      slot,
      number,
    )

written_turned : (ts : List ToldRecord) (s : SlotName) (n value : ℕ) → IsWrittenAt (played_in ts) s n value →
    IsWrittenAt (played_in (in_turn ts)) s n value
written_turned ts s n value (x, seen, reg, among, op, answer, slot, number) =
    let (y, there, same) = map_cases (λ (z : ToldRecord). z.played) ts x among in (
      (turned y).played,
      seen,
      reg,
      map_in (λ (z : ToldRecord). z.played) (in_turn ts) (turned y) (map_in turned ts y there),
      ap (λ (p : Played). p.op) same ∙ op,
      ap (λ (p : Played). p.answer) same ∙ answer,
      slot,
      number,
    )

made_back : (ts : List ToldRecord) (s : SlotName) (n : ℕ) → IsMadeAt (played_in (in_turn ts)) s n → IsMadeAt (played_in ts) s n
made_back ts s n (p, seen, usable, among, answer, slot, number) =
    each_played (λ x. x.answer ≡ answers.Made seen usable → IsMadeAt (played_in ts) s n) ts (λ x there mine.
    (x.played, seen, usable, map_in (λ (z : ToldRecord). z.played) ts x there, mine, slot, number)) p among answer

written_back : (ts : List ToldRecord) (s : SlotName) (n value : ℕ) → IsWrittenAt (played_in (in_turn ts)) s n value →
    IsWrittenAt (played_in ts) s n value
written_back ts s n value (p, seen, reg, among, op, answer, slot, number) =
    each_played (λ x. x.op ≡ ops.Write reg value → x.answer ≡ answers.Done seen → IsWrittenAt (played_in ts) s n value) ts
    (λ x there mine done. (x.played, seen, reg, map_in (λ (z : ToldRecord). z.played) ts x there, mine, done, slot, number))
    p among op answer

content_back : (ts : List ToldRecord) (s : SlotName) (k value : ℕ) → IsContent (played_in (in_turn ts)) s k value →
    IsContent (played_in ts) s k value
content_back ts s k value content = elim content [
  | inl (n, last, latest) ↦ inl (n, back n value last, λ m other written. latest m other (forth m other written))
  | inr (zero_is, none) ↦ inr (zero_is, λ n other written. none n other (forth n other written))
]
  where
    forth : (n other : ℕ) → IsWrittenFor (played_in ts) s k n other → IsWrittenFor (played_in (in_turn ts)) s k n other
    forth n other (written, low, between) =
        (written_turned ts s n other written, low, λ m made. between m (made_back ts s m made))

    back : (n other : ℕ) → IsWrittenFor (played_in (in_turn ts)) s k n other → IsWrittenFor (played_in ts) s k n other
    back n other (written, low, between) =
        (written_back ts s n other written, low, λ m made. between m (made_turned ts s m made))

-- ---- reads

module _ (t : Trace) (r : Told) (v : View) (ts : List ToldRecord) (seats : ℕ → View) (says : LayersSay t r v ts)
    (turns : TurnsSay v ts seats) where
  exact : (x : ToldRecord) (a : Answer) → Contains ts x → x.played.answer ≡ a → IsReadExact (played_in ts) a
  exact x (answers.Value seen value) among answer =
      let sizes = sizes_in t r in
      let (bit, reads) = subst (λ a. IsToldBy sizes x.played.op a x.stretch) answer (says.heap.told x among) in
      let (reg, place, owned, op, told) = reads in
      elim (reads_follow.held sizes v (in_turn ts) (turned x) seen value place owned (read_off t r v ts seats says turns)
      (map_in turned ts x among) answer told) [
        | inl content ↦ content_back ts seen.slot (number_of seen.found.0) value content
        | inr (none, gave, (y, (n, freed, low, first), thread, phase)) ↦ absurd (each_played
            (λ p. p.phase ≡ x.played.line → (p.thread ≡ x.played.thread → ⊥) → ⊥) ts
            (λ z there same other. let one = one_record ts z x (rising t r v ts says) there among same in
            other (ap (λ (w : ToldRecord). w.played.thread) one))
            y freed.0 phase thread)
      ]
  exact x (answers.Dangling seen value) among answer = reads_follow.freed (sizes_in t r) v (in_turn ts) (turned x) seen value
      (read_off t r v ts seats says turns) (map_in turned ts x among) answer
  exact x a among answer = tt

  pub exact_contents : AreExactContents (played_in ts)
  exact_contents p among =
      let (x, there, same) = map_cases (λ (z : ToldRecord). z.played) ts p among in
      subst (λ (y : Played). IsReadExact (played_in ts) y.answer) same (exact x x.played.answer there refl)
