-- The run of a slot, and its place.
use Rattle.std.specs.Prelude.{◌≡◌, ℕ, ◌<◌, ◌≤◌, ◌==◌, ◌&&◌, Bool, List, [], ◌∷◌, Option, Some, IsSome, Contains}
use Rattle.pa_slot.specs.declared.word.SlotName.{SlotName}
use Rattle.pa_slot.specs.declared.word.Step.{Step}
use Rattle.pa_slot.specs.declared.word.Step.TheVariants.{Issue, Copy, Reset, Free, Write}
use Rattle.pa_slot.specs.Count.{CanStep, stepped, refs_of, held_of}

-- the test whether two names are one
abbrev pub same_slot : SlotName → SlotName → Bool
same_slot s t = (s.start == t.start) && (s.born == t.born)

-- What a line reports of a slot: the word that it found there, and the step that it made. A look makes none.
pub record Mark : Type 0 where
  pub line : ℕ
  pub slot : SlotName
  pub found : ℕ
  pub step : Option Step

-- m made the step p of slot s at the word u, and no line before it made one there
pub record IsFirstAt (ms : List Mark) (s : SlotName) (u : ℕ) (m : Mark) (p : Step) : Type 0 where
  pub among : Contains ms m
  pub slot : m.slot ≡ s
  pub found : m.found ≡ u
  pub step : m.step ≡ Some p
  pub least : (n : Mark) → Contains ms n → n.slot ≡ s → n.found ≡ u → IsSome n.step → m.line ≤ n.line

-- the words of slot s after the word u, each by the step that the marks made at the one before, until none did
-- or its step isn't enabled
abbrev pub IsRunFrom : List Mark → SlotName → ℕ → List ℕ → Type 0
IsRunFrom ms s u [] = (m : Mark) (p : Step) → IsFirstAt ms s u m p → CanStep p u → ⊥
IsRunFrom ms s u (v ∷ vs) =
    (m : Mark) × (p : Step) × IsFirstAt ms s u m p × CanStep p u × (v ≡ stepped p u) × IsRunFrom ms s v vs

-- each word found is a word of the run, and each step that was made is the one that the run used there
pub record IsOneRun (ms : List Mark) (s : SlotName) (ws : List ℕ) : Type 0 where
  pub found : (m : Mark) → Contains ms m → m.slot ≡ s → Contains ws m.found
  pub used : (m : Mark) (p : Step) → Contains ms m → m.slot ≡ s → m.step ≡ Some p → IsFirstAt ms s m.found m p × CanStep p m.found

-- the steps of each slot, in the order of their numbers, are one run from the word 0
abbrev pub Slots : List Mark → Type 0
Slots ms = (s : SlotName) → (vs : List ℕ) × IsRunFrom ms s 0 vs × IsOneRun ms s (0 ∷ vs)

-- the slot of this word is live: the allocator's bit is 1
abbrev pub IsLive : ℕ → Type 0
IsLive w = held_of w ≡ 1

-- the slot of this word is quarantined: the allocator's bit is 0, and at least one raw_ptr is counted
abbrev pub IsQuarantined : ℕ → Type 0
IsQuarantined w = (held_of w ≡ 0) × (0 < refs_of w)

-- the slot of this word is free: the allocator's bit is 0, and no raw_ptr is counted
abbrev pub IsFree : ℕ → Type 0
IsFree w = (held_of w ≡ 0) × (refs_of w ≡ 0)

-- the step that returns a slot: the last reset of a slot that was freed, or a free that finds no raw_ptr
abbrev pub IsReturning : Step → ℕ → Type 0
IsReturning Issue w = ⊥
IsReturning Copy w = ⊥
IsReturning Reset w = (held_of w ≡ 0) × (refs_of w ≡ 1)
IsReturning Free w = (held_of w ≡ 1) × (refs_of w ≡ 0)
IsReturning Write w = ⊥
