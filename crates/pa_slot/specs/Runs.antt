-- Marks so far, in which each slot has a word: the words of a slot are a path to it.
use Rattle.std.specs.Prelude.{◌≡◌, ℕ, ◌<◌, List, [], ◌∷◌, Some, IsSome, Contains}
use Rattle.pa_slot.specs.declared.word.SlotName.{SlotName}
use Rattle.pa_slot.specs.declared.word.Step.{Step}
use Rattle.pa_slot.specs.Count.{number_of, CanStep, stepped}
use Rattle.pa_slot.specs.Run.{Mark, IsFirstAt}

-- the words of slot s from u to w, each by the step that the marks made at the one before
abbrev pub IsPath : List Mark → SlotName → ℕ → List ℕ → ℕ → Type 0
IsPath ms s u [] w = u ≡ w
IsPath ms s u (v ∷ vs) w = (m : Mark) × (p : Step) × IsFirstAt ms s u m p × CanStep p u × (v ≡ stepped p u) × IsPath ms s v vs w

-- a path to the word w, on which each word that the marks found lies
abbrev pub HasPath : List Mark → SlotName → ℕ → Type 0
HasPath ms s w = (vs : List ℕ) × IsPath ms s 0 vs w × ((m : Mark) → Contains ms m → m.slot ≡ s → Contains (0 ∷ vs) m.found)

-- what is known of the marks so far, if each slot has this word
pub record HasRuns (ms : List Mark) (word : SlotName → ℕ) : Type 0 where
  pub counted : (m : Mark) → Contains ms m → IsSome m.step → number_of m.found < number_of (word m.slot)
  pub used : (m : Mark) (p : Step) → Contains ms m → m.step ≡ Some p → IsFirstAt ms m.slot m.found m p × CanStep p m.found
  pub path : (s : SlotName) → HasPath ms s (word s)
