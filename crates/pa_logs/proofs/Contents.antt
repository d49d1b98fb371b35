-- The content at a number by the records is that of the slot's history.
use Rattle.std.proofs.Common.{◌≡◌, ℕ, zero, suc, ◌+◌, ◌<◌, ◌≤◌, List, length, Some, refl, sym, ◌∙◌, ap, subst, arith, inl, inr}
use Rattle.std.specs.Prelude.{Contains}
use Rattle.std.proofs.lemmas.Bool.{cases_lt}
use Rattle.pa_slot.specs.declared.word.SlotName.{SlotName}
use Rattle.pa_slot.specs.declared.word.Step.{Step}
use Rattle.pa_slot.specs.declared.word.Step.TheVariants.{Issue, Copy, Reset, Free, Write}
use Rattle.pa_slot.specs.Count.{number_of}
use Rattle.pa_record.specs.declared.entry.Answer.TheVariants.{Done}
use Rattle.pa_region.specs.History.{Done as Step_done, content_of, content_by}
use Rattle.pa_region.specs.Contents.{content_at_number}
use Rattle.pa_region.proofs.AtNumber.{up_to_none}
use Rattle.pa_rules.specs.declared.played.Played.{Played}
use Rattle.pa_rules.specs.Contents.{IsMadeAt, IsWrittenAt, IsContent}
use Rattle.pa_logs.specs.Touches.{StepMade, step_in, step_by}
use Rattle.pa_logs.specs.Steps.{AreSteps, ContentFollows}
use Rattle.pa_logs.proofs.StepMarks.{issue_is, done_is, write_op}
use Rattle.pa_logs.proofs.OneSlot.{IsStepAt, step_at, same_step}

-- a step of slot s that found the number n, by some record
pub record StepsAt (ps : List Played) (s : SlotName) (n : ℕ) (step : Step) (value : ℕ) : Type 0 where
  pub by : Played
  pub made : StepMade
  pub among : Contains ps by
  pub is : step_by by ≡ Some made
  pub slot : made.slot ≡ s
  pub number : number_of made.found ≡ n
  pub step_is : made.step ≡ step
  pub value_is : made.value ≡ value

-- what was made and written, as steps
pub made_steps : (ps : List Played) (s : SlotName) (n : ℕ) → IsMadeAt ps s n → StepsAt ps s n Issue 0
made_steps ps s n (x, seen, usable, among, answer, slot, number) = record {
  by = x;
  made = record { slot = seen.slot; step = Issue; found = seen.found.0; value = 0 };
  among = among;
  is = ap (λ a. step_in x.op a) answer;
  slot = slot;
  number = number;
  step_is = refl;
  value_is = refl;
}

pub written_steps : (ps : List Played) (s : SlotName) (n value : ℕ) → IsWrittenAt ps s n value → StepsAt ps s n Write value
written_steps ps s n value (x, seen, reg, among, op, answer, slot, number) = record {
  by = x;
  made = record { slot = seen.slot; step = Write; found = seen.found.0; value = value };
  among = among;
  is = ap (λ a. step_in x.op a) answer ∙ ap (λ o. step_in o (Done seen)) op;
  slot = slot;
  number = number;
  step_is = refl;
  value_is = refl;
}

no_issue : (p : Step) → p ≡ Write → p ≡ Issue → ⊥
no_issue p e f = cc

module _ (ps : List Played) (s : SlotName) (history : List Step_done) (steps : AreSteps ps s history) where
  -- the step at a number is the only one there
  only : (k : ℕ) (x : Played) (d : StepMade) (step : Step) (value : ℕ) → IsStepAt ps s history k x d → StepsAt ps s k step value →
      d.step ≡ step
  only k x d step value at other =
      let same = same_step ps s history steps x other.by d other.made at.among other.among at.is other.is at.slot other.slot
      (at.number ∙ sym other.number) in
      ap (λ (z : StepMade). z.step) same ∙ other.step_is

  made_here : (k : ℕ) (x : Played) (d : StepMade) → IsStepAt ps s history k x d → d.step ≡ Issue → IsMadeAt ps s k
  made_here k x d at e =
      let is = issue_is x.op x.answer d at.is e in
      (x, is.seen, is.usable, at.among, is.answer, is.slot ∙ at.slot, ap number_of is.found ∙ at.number)

  written_here : (k : ℕ) (x : Played) (d : StepMade) → IsStepAt ps s history k x d → d.step ≡ Write → IsWrittenAt ps s k d.value
  written_here k x d at e =
      let is = done_is x.op x.answer d at.is (λ f. no_issue d.step e f) in
      let op = write_op x.op d.value (is.step ∙ ap Some e) is.value in
      (x, is.seen, op.0, at.among, op.1, is.answer, is.slot ∙ at.slot, ap number_of is.found ∙ at.number)

  -- a step that neither makes nor writes leaves the content
  stays : (k value : ℕ) → (IsMadeAt ps s k → ⊥) → ((other : ℕ) → IsWrittenAt ps s k other → ⊥) → IsContent ps s k value →
      IsContent ps s (k + 1) value
  stays k value none_made none_written (inl (n, (written, low, none), latest)) = inl (
    n,
    (
      written,
      omega arith,
      λ m made after below. elim (cases_lt m k)
          [ inl y ↦ none m made after y | inr high ↦ none_made (subst (λ i. IsMadeAt ps s i) (at_end m high below) made) ],
    ),
    λ m other (written', low', none') after. elim (cases_lt m k) [
      | inl y ↦ latest m other (written', y, λ j made a b. none' j made a (omega arith)) after
      | inr high ↦ none_written other (subst (λ i. IsWrittenAt ps s i other) (at_end m high low') written')
    ],
  )
    where
      at_end : (m : ℕ) → k ≤ m → m < k + 1 → m ≡ k
      at_end m a b = omega arith
  stays k value none_made none_written (inr (zero_is, none)) = inr (
    zero_is,
    λ n other (written, low, between). elim (cases_lt n k) [
      | inl y ↦ none n other (written, y, λ m made a b. between m made a (omega arith))
      | inr high ↦ none_written other (subst (λ i. IsWrittenAt ps s i other) (at_end n high low) written)
    ],
  )
    where
      at_end : (m : ℕ) → k ≤ m → m < k + 1 → m ≡ k
      at_end m a b = omega arith

  quiet : (k value : ℕ) (x : Played) (d : StepMade) → IsStepAt ps s history k x d → (d.step ≡ Issue → ⊥) → (d.step ≡ Write → ⊥) →
      IsContent ps s k value → IsContent ps s (k + 1) value
  quiet k value x d at no_issue no_write is =
      stays k value (λ made. no_issue (only k x d Issue 0 at (made_steps ps s k made)))
      (λ other written. no_write (only k x d Write other at (written_steps ps s k other written))) is

  -- the content after a step
  after : (k value : ℕ) (x : Played) (d : StepMade) (p : Step) → IsStepAt ps s history k x d → d.step ≡ p → IsContent ps s k value →
      IsContent ps s (k + 1) (content_by p d.value value)
  after k value x d Issue at e is = inr (
    refl,
    λ n other (written, low, between). elim (cases_lt n k) [
      | inl y ↦ between k (made_here k x d at e) y (omega arith)
      | inr high ↦
          let same : n ≡ k = omega arith in
          no_issue d.step (only k x d Write other at (written_steps ps s k other (subst (λ i. IsWrittenAt ps s i other) same written))) e
    ],
  )
  after k value x d Copy at e is = quiet k value x d at (λ f. absurd cc) (λ f. absurd cc) is
  after k value x d Reset at e is = quiet k value x d at (λ f. absurd cc) (λ f. absurd cc) is
  after k value x d Free at e is = quiet k value x d at (λ f. absurd cc) (λ f. absurd cc) is
  after k value x d Write at e is =
      inl (
        k,
        (written_here k x d at e, omega arith, λ m made a b. absurd (omega arith)),
        λ m other (written, low, between) later. absurd (omega arith),
      )

  content_at : (k : ℕ) → k ≤ length history → IsContent ps s k (content_at_number k history)
  content_at zero within = inr (ap content_of (up_to_none history), λ n other (written, low, between). absurd (omega arith))
  content_at (suc k) within =
      let (x, d, at) = step_at ps s history steps k (omega arith) in
      let again = after k (content_at_number k history) x d d.step at refl (content_at k (omega arith)) in
      let more : suc k ≡ k + 1 = omega arith in
      let next : content_at_number (k + 1) history ≡ content_by d.step d.value (content_at_number k history) = ap content_of at.stands in
      rw more (subst (λ z. IsContent ps s (k + 1) z) (sym next) again)

pub content_follows : ContentFollows
content_follows ps s history k steps within = content_at ps s history steps k within
