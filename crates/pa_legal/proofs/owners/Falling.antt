-- A slot's bit falls by a free alone.
use Rattle.std.proofs.Common.{◌≡◌, ℕ, zero, suc, ◌+◌, ◌-◌, ◌<◌, ◌≤◌, List, ◌∷◌, ◌∙◌, ap, arith, inl, inr, Some}
use Rattle.std.specs.Prelude.{Contains, AllPairs}
use Rattle.std.proofs.lemmas.Bool.{cases_lt}
use Rattle.pa_slot.specs.declared.word.SlotName.{SlotName}
use Rattle.pa_slot.specs.declared.word.Step.{Step}
use Rattle.pa_slot.specs.declared.word.Step.TheVariants.{Issue, Copy, Reset, Free, Write}
use Rattle.pa_slot.specs.Count.{CanStep, number_of, held_of, stepped}
use Rattle.pa_slot.specs.Run.{Mark, IsFirstAt, IsRunFrom}
use Rattle.pa_slot.proofs.Arith.{stepped_is}
use Rattle.pa_slot.proofs.Runs.{number_stepped}
use Rattle.pa_rules.proofs.Running.{OtherLine, same_word}
use Rattle.pa_legal.proofs.Words.{goes_on, goes_past}

-- the first free that found the word a or a later one, below the word w: up to it each word has the bit
pub record FirstFree (ms : List Mark) (s : SlotName) (vs : List ℕ) (a w : ℕ) : Type 0 where
  pub free : Mark
  pub among : Contains ms free
  pub slot : free.slot ≡ s
  pub step : free.step ≡ Some Free
  pub low : number_of a ≤ number_of free.found
  pub high : number_of free.found < number_of w
  pub held : (q : ℕ) → Contains (0 ∷ vs) q → number_of a ≤ number_of q → number_of q ≤ number_of free.found → held_of q ≡ 1

module _ (ms : List Mark) (s : SlotName) (vs : List ℕ) (lines : AllPairs OtherLine ms) (run : IsRunFrom ms s 0 vs) where
  -- from the next word the run goes on to the same free
  later_free : (a w : ℕ) (p : Step) → Contains (0 ∷ vs) a → CanStep p a → held_of a ≡ 1 → FirstFree ms s vs (stepped p a) w
      → FirstFree ms s vs a w
  later_free a w p here can bit next =
      let up = number_stepped p a can in
      let low = next.low in
      record {
        free = next.free;
        among = next.among;
        slot = next.slot;
        step = next.step;
        low = omega (arith, up, low);
        high = next.high;
        held = λ q there above below. elim (cases_lt (number_of a) (number_of q)) [
          | inl more ↦ next.held q there (omega (arith, up, more)) below
          | inr not ↦ ap held_of (same_word ms s 0 vs q a run there here (omega (arith, not, above))) ∙ bit
        ];
      }

  one_turn : (a w : ℕ) (m : Mark) (p : Step) → Contains (0 ∷ vs) a → IsFirstAt ms s a m p → CanStep p a → held_of a ≡ 1
      → number_of a < number_of w
      → (held_of (stepped p a) ≡ 1 → FirstFree ms s vs (stepped p a) w) → FirstFree ms s vs a w
  one_turn a w m Free here first can bit less next =
      let at : number_of m.found ≡ number_of a = ap number_of first.found in
      record {
        free = m;
        among = first.among;
        slot = first.slot;
        step = first.step;
        low = omega (arith, at);
        high = omega (arith, at, less);
        held = λ q there above below. ap held_of (same_word ms s 0 vs q a run there here (omega (arith, at, above, below))) ∙ bit;
      }
  one_turn a w m Issue here first can bit less next = let (none, refs) = can.0 in absurd (omega (arith, none, bit))
  one_turn a w m Copy here first can bit less next =
      let (x, y, z) = stepped_is Copy a can in later_free a w Copy here can bit (next (y ∙ bit))
  one_turn a w m Reset here first can bit less next =
      let (x, y) = stepped_is Reset a can in later_free a w Reset here can bit (next (y ∙ bit))
  one_turn a w m Write here first can bit less next =
      let (x, y, z, t) = stepped_is Write a can in later_free a w Write here can bit (next (y ∙ bit))

  free_in : (d a w : ℕ) → Contains (0 ∷ vs) a → Contains (0 ∷ vs) w → held_of a ≡ 1 → held_of w ≡ 0 → number_of a + d ≡ number_of w
      → FirstFree ms s vs a w
  free_in zero a w here there bit none far =
      let same : held_of a ≡ held_of w = ap held_of (same_word ms s 0 vs a w run here there (omega (arith, far))) in
      absurd (omega (arith, same, bit, none))
  free_in (suc d) a w here there bit none far =
      let less : number_of a < number_of w = omega (arith, far) in
      let (m, p, first, can) = goes_past ms s 0 vs a w run here there less in
      let up = number_stepped p a can in
      one_turn a w m p here first can bit less
      (λ still. free_in d (stepped p a) w (goes_on ms s 0 vs a m p lines run here first can) there still none (omega (arith, up, far)))

  -- between a word with the bit and a later one without it a free was made
  pub first_free : (a w : ℕ) → Contains (0 ∷ vs) a → Contains (0 ∷ vs) w → held_of a ≡ 1 → held_of w ≡ 0 → number_of a ≤ number_of w
      → FirstFree ms s vs a w
  first_free a w here there bit none most = free_in (number_of w - number_of a) a w here there bit none (omega (arith, most))
