-- The history of a title: the steps on its count word, the latest first, and how logs chain it.
use Rattle.std.specs.Prelude.{◌≡◌, ℕ, ◌<◌, ◌⊎◌, List, [], ◌∷◌, nat_lt, length}
use Rattle.pa_slot.specs.declared.title.Title.{Title}
use Rattle.pa_slot.specs.declared.word.Step.{Step}
use Rattle.pa_slot.specs.declared.word.Step.TheVariants.{Issue, Copy, Reset, Free, Write}
use Rattle.pa_slot.specs.Count.{CanStep, stepped}
use Rattle.pa_slot.specs.Holdings.{one}
use Rattle.pa_region.specs.declared.view.Entry.{Entry}
use Rattle.pa_region.specs.Views.{counted_on, counted_at, counted_as, looked_at}

-- one step that was made, and the value that it wrote if it was a write
pub record Done : Type 0 where
  pub step : Step
  pub value : ℕ

-- the word after these steps, from the word 0
abbrev pub reached : List Done → ℕ
reached [] = 0
reached (d ∷ older) = stepped d.step (reached older)

-- the content after a step with this value, if it was `before` until then: an issue makes it 0, a write its value
abbrev pub content_by : Step → ℕ → ℕ → ℕ
content_by Issue value before = 0
content_by Copy value before = before
content_by Reset value before = before
content_by Free value before = before
content_by Write value before = value

-- the content after these steps: that of the last issue or write
abbrev pub content_of : List Done → ℕ
content_of [] = 0
content_of (d ∷ older) = content_by d.step d.value (content_of older)

-- each step was enabled at the word that it found, and had room there
abbrev pub IsLegal : List Done → Type 0
IsLegal [] = Unit {0}
IsLegal (d ∷ older) = CanStep d.step (reached older) × IsLegal older

-- the word is one of the words of the history, from 0 to the last one
abbrev pub IsWordIn : ℕ → List Done → Type 0
IsWordIn word [] = word ≡ 0
IsWordIn word (d ∷ older) = (word ≡ reached (d ∷ older)) ⊎ IsWordIn word older

-- each step of the history is in exactly one log, once, with the word that it found and its value
abbrev pub IsLogged : ((Entry → ℕ) → ℕ) → Title → List Done → Type 0
IsLogged logs t [] = Unit {0}
IsLogged logs t (d ∷ older) = (logs (counted_as t d.step (reached older) d.value) ≡ 1) × IsLogged logs t older

-- The logs chain the title's history. Each number below its length was found by exactly one counted step of all logs, and no other
-- number was found by any. These are the steps of the history with its words. Each look found a word of the history.
pub record IsChained (logs : (Entry → ℕ) → ℕ) (t : Title) (history : List Done) : Type 0 where
  pub legal : IsLegal history
  pub steps : IsLogged logs t history
  pub numbers : (k : ℕ) → logs (counted_at t k) ≡ one (nat_lt k (length history))
  pub all : logs (counted_on t) ≡ length history
  pub looks : (word : ℕ) → 0 < logs (looked_at t word) → IsWordIn word history
