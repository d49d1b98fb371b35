-- The arithmetic of the count word and of places.
use Rattle.std.proofs.Common.{◌≡◌, ℕ, ◌+◌, ◌<◌, ◌≤◌, arith}
use Rattle.pa_slot.specs.declared.word.Step.{Step}
use Rattle.pa_slot.specs.declared.word.Step.TheVariants.{Issue, Copy, Reset, Free, Write}
use Rattle.pa_slot.specs.Count.{CanStep, stepped, refs_of, held_of}

-- what a step does to bit and count
abbrev pub IsStepped : Step → ℕ → ℕ → Type 0
IsStepped Issue w v = (refs_of v ≡ 0) × (held_of v ≡ 1) × (refs_of w ≡ 0) × (held_of w ≡ 0)
IsStepped Copy w v = (refs_of v ≡ refs_of w + 1) × (held_of v ≡ held_of w) × (0 < held_of w + refs_of w)
IsStepped Reset w v = (refs_of v + 1 ≡ refs_of w) × (held_of v ≡ held_of w)
IsStepped Free w v = (refs_of v ≡ refs_of w) × (held_of v ≡ 0) × (held_of w ≡ 1)
IsStepped Write w v = (refs_of v ≡ refs_of w) × (held_of v ≡ held_of w) × (held_of w ≡ 1) × (refs_of w ≡ 0)

pub stepped_is : (p : Step) (w : ℕ) → CanStep p w → IsStepped p w (stepped p w)
stepped_is Issue w can = (omega arith, omega arith, omega arith, omega arith)
stepped_is Copy w can = (omega arith, omega arith, omega arith)
stepped_is Reset w can = (omega arith, omega arith)
stepped_is Free w can = (omega arith, omega arith, omega arith)
stepped_is Write w can = (omega arith, omega arith, omega arith, omega arith)

-- the bit is 0 or 1
pub held_small : (w : ℕ) → held_of w ≤ 1
held_small w = omega arith
