-- What titles have by one order of all steps, with the poisonings: the eighth part of the rule.
use Rattle.std.specs.Prelude.{◌≡◌, ℕ, ◌<◌, ◌≤◌, List, true, false, Some}
use mathlib.Core.Option.{some}
use lib.ListN.{get_elem?}
use Rattle.pa_slot.specs.declared.title.Title.{Title}
use Rattle.pa_slot.specs.declared.title.OwnState.{OwnState}
use Rattle.pa_slot.specs.Titles.{content_count, poison, progress}
use Rattle.pa_slot.specs.Holdings.{Thing, OwnOf, OwnAs, RefOf}
use Rattle.pa_region.specs.declared.view.Entry.TheVariants.{Looked}
use Rattle.pa_region.specs.declared.view.View.{View}
use Rattle.pa_region.specs.Views.{least_stake}
use Rattle.pa_region.specs.History.{Done, content_of}
use Rattle.pa_region.specs.Pairs.{last_entry, least_log}
use Rattle.pa_region.specs.Waiting.{poisoned_of}
use Rattle.pa_region.specs.Order.{Stamped, OneStep, logged_among, spoiled, content_in, IsCalm, IsAlone, AreInPlace}

-- By the steps the first n content words of the title are poison, poisoned since its last free, and each other has this value.
pub record IsFilled (steps : List OneStep) (t : Title) (value n : ℕ) : Type 0 where
  pub many : spoiled t steps ≡ n
  pub poisoned : (place : ℕ) → place < n → content_in t place steps ≡ poison
  pub beyond : (place : ℕ) → n ≤ place → content_in t place steps ≡ value

-- By the steps each poisoning of the title has a free after it, and while the title has Refs its content is poison.
pub record IsLeft (steps : List OneStep) (t : Title) (refs : ℕ) : Type 0 where
  pub none : spoiled t steps ≡ 0
  pub poisoned : 0 < refs → (place : ℕ) → place < content_count t → content_in t place steps ≡ poison

-- What the steps say to one view. If its last entry is a look at a title, and it handed nothing over since, the title wasn't
-- issued or written since. If it poisoned since its last entry, it logged nothing since it began with the Own that it has poisoned.
pub record IsSteady (steps : List OneStep) (v : View) : Type 0 where
  pub waits : (t : Title) (found : ℕ) → last_entry (least_log v.stakes) ≡ Some (Looked t found) → v.since.handed ≡ false →
      IsCalm (least_stake v.stakes) t steps
  pub near : (t : Title) → v.since.poisoned ≡ true → 0 < poisoned_of v t → IsAlone (least_stake v.stakes) t steps

-- The eighth part: one order of all that logs say and of all poisonings. Each step is in place after those before it. By the steps an
-- Own has as many poisoned words as its state says, and in the others what its title's history says. A title without an Own has no
-- poisoning without a free after it, and its content is poison while there are Refs. Each view finds the steps steady.
pub record Filled (steps : List OneStep) (all : List Stamped) (history : Title → List Done) (total : Thing → ℕ)
    (views : List View) : Type 0 where
  pub logged : logged_among steps ≡ all
  pub placed : AreInPlace steps
  pub owned : (t : Title) (state : OwnState) → 0 < total (OwnAs t state) → IsFilled steps t (content_of (history t)) (progress state)
  pub left : (t : Title) → total (OwnOf t) ≡ 0 → IsLeft steps t (total (RefOf t))
  pub each_view : (i : ℕ) (v : View) → get_elem? views i ≡ some v → IsSteady steps v
