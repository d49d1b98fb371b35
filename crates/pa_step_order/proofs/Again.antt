-- A slot whose bit a look found 0, and that is freed later, was issued between the two.
use Rattle.std.proofs.Common.{◌≡◌, ℕ, zero, suc, ◌+◌, ◌<◌, ◌≤◌, List, length, None, Some, ◌⊎◌, ◌-◌, inl, inr, refl, sym, ◌∙◌, ap, subst, arith}
use Rattle.std.specs.Prelude.{Contains}
use Rattle.pa_slot.specs.declared.word.SlotName.{SlotName}
use Rattle.pa_slot.specs.declared.word.Step.{Step}
use Rattle.pa_slot.specs.declared.word.Step.TheVariants as steps
use Rattle.pa_slot.specs.Count.{CanStep, stepped, number_of, held_of}
use Rattle.pa_slot.proofs.Arith.{stepped_is}
use Rattle.pa_record.specs.declared.entry.Answer.TheVariants as answers
use Rattle.pa_lists.proofs.Joined.{map_cases}
use Rattle.pa_region.specs.History.{Done, reached}
use Rattle.pa_region.specs.Contents.{word_at_number}
use Rattle.pa_region.proofs.AtNumber.{word_found}
use Rattle.pa_rules.specs.declared.played.Played.{Played}
use Rattle.pa_rules.specs.Played.{mark_of, mark_at, mark_of_answer}
use Rattle.pa_logs.specs.Told.{ToldRecord, played_in}
use Rattle.pa_logs.specs.Touches.{StepMade, step_by, IsToldBy, AreTold}
use Rattle.pa_logs.specs.Steps.{AreSteps}
use Rattle.pa_logs.proofs.OneSlot.{step_at, can_made}
use Rattle.pa_step_order.proofs.Marked.{Fills}
use Rattle.pa_step_order.proofs.Crossing.{AreIssuedAgain}

-- a step at a bit of 0 that isn't an issue leaves it 0
stays_clear : (p : Step) (w : ℕ) → CanStep p w → (p ≡ steps.Issue → ⊥) → held_of w ≡ 0 → held_of (stepped p w) ≡ 0
stays_clear steps.Issue w can other clear = absurd (other refl)
stays_clear steps.Copy w can other clear = let s = stepped_is steps.Copy w can in s.1 ∙ clear
stays_clear steps.Reset w can other clear = let s = stepped_is steps.Reset w can in s.1 ∙ clear
stays_clear steps.Free w can other clear = absurd (let held = can.0 in omega arith)
stays_clear steps.Write w can other clear = absurd (let held = can.0.0 in omega arith)

is_issue : (p : Step) → (p ≡ steps.Issue) ⊎ (p ≡ steps.Issue → ⊥)
is_issue steps.Issue = inl refl
is_issue steps.Copy = inr (λ e. cc)
is_issue steps.Reset = inr (λ e. cc)
is_issue steps.Free = inr (λ e. cc)
is_issue steps.Write = inr (λ e. cc)

module _ (ps : List Played) (s : SlotName) (history : List Done) (are : AreSteps ps s history) where
  -- an issue of the slot, by a record, at a number between these
  abbrev IssuedBetween : ℕ → ℕ → Type 0
  IssuedBetween k n =
      (z : Played) × (e : StepMade) × Contains ps z × (step_by z ≡ Some e) × (e.slot ≡ s) × (e.step ≡ steps.Issue) ×
      (k ≤ number_of e.found) × (number_of e.found < n)

  issued_from : (gap k n : ℕ) → k + gap ≡ n → n ≤ length history → held_of (word_at_number k history) ≡ 0 →
      held_of (word_at_number n history) ≡ 1 → IssuedBetween k n
  issued_from zero k n is within clear set =
      let same : k ≡ n = omega arith in
      let both : held_of (word_at_number k history) ≡ held_of (word_at_number n history) =
      ap (λ i. held_of (word_at_number i history)) same in
      absurd (omega arith)
  issued_from (suc gap) k n is within clear set =
      let (z, d, at) = step_at ps s history are k (omega arith) in
      let number = at.number in
      elim (is_issue d.step) [
        | inl issue ↦ (z, d, at.among, at.is, at.slot, issue, omega arith, omega arith)
        | inr other ↦
            let next : word_at_number (k + 1) history ≡ stepped d.step (word_at_number k history) = ap reached at.stands in
            let clear_next : held_of (word_at_number (k + 1) history) ≡ 0 = ap held_of next ∙
            stays_clear d.step (word_at_number k history) at.can other clear in
            let (u, e, among, made, slot, issue, low, high) = issued_from gap (k + 1) n (omega arith) within clear_next set in
            (u, e, among, made, slot, issue, omega arith, high)
      ]

pub issued_again : (sizes : SlotName → ℕ) (ts : List ToldRecord) → AreTold sizes ts →
    ((s : SlotName) → (history : List Done) × AreSteps (played_in ts) s history) →
    AreIssuedAgain (played_in ts)
issued_again sizes ts told histories x seen value y d reader answer freer made frees slot low =
    let ps = played_in ts in
    let s = seen.slot in
    let (history, are) = histories s in
    let (a, there, same) = map_cases (λ (z : ToldRecord). z.played) ts x reader in
    let answer_a : a.played.answer ≡ answers.Dangling seen value = ap (λ (z : Played). z.answer) same ∙ answer in
    let bit : held_of seen.found.0 ≡ 0 = (subst (λ b. IsToldBy sizes a.played.op b a.stretch) answer_a (told a there)).0 in
    let marked : mark_of x ≡ Some (mark_at x.line seen None) = ap (mark_of_answer x.line x.op) answer in
    let (within_k, word_k) = word_found seen.found.0 history are.legal (are.looks x (mark_at x.line seen None) reader marked refl) in
    let at = are.stand y d freer made slot in
    let can : CanStep steps.Free d.found = subst (λ p. CanStep p d.found) frees (can_made ps s history are y d freer made slot) in
    let below = at.below in
    let clear : held_of (word_at_number (number_of seen.found.0) history) ≡ 0 = ap held_of word_k ∙ bit in
    let set : held_of (word_at_number (number_of d.found) history) ≡ 1 = ap held_of at.word ∙ can.0 in
    let k = number_of seen.found.0 in
    let n = number_of d.found in
    let (z, e, among, made_z, slot_z, issue, least, most) =
    issued_from ps s history are (n - k) k n (omega arith) (omega arith) clear set in
    (z, e, among, made_z, slot_z, subst Fills (sym issue) tt, least, most)
