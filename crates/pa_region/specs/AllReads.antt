-- What a view with every stake knows of its logs, and of the reads in them.
use Rattle.std.specs.Prelude.{◌≡◌, ℕ, ◌<◌, ◌⊎◌, List, ◌∷◌, ◌++◌, Bool, true, false, length}
use mathlib.Core.Option.{some}
use lib.ListN.{get_elem?}
use Rattle.pa_slot.specs.declared.title.Title.{Title}
use Rattle.pa_slot.specs.Count.{number_of, held_of}
use Rattle.pa_slot.specs.Titles.{IsWellFormed, poison}
use Rattle.pa_region.specs.declared.view.Deeds.{Deeds}
use Rattle.pa_region.specs.declared.view.Entry.{Entry}
use Rattle.pa_region.specs.declared.view.Entry.TheVariants.{Looked, Read}
use Rattle.pa_region.specs.declared.view.Stake.{Stake}
use Rattle.pa_region.specs.declared.view.View.{View}
use Rattle.pa_region.specs.Views.{logged_of, names}
use Rattle.pa_region.specs.History.{Done, IsChained}
use Rattle.pa_region.specs.Contents.{content_at_number}
use Rattle.pa_region.specs.Pairs.{paired_of, paired_of_by, logged_of_by}
use Rattle.pa_region.specs.Waiting.{is_quiet, gave_no_poison, quiet_read, IsFreedElsewhere}

-- Each read right after a look in the view's logs gave what it should. If the look found the bit 0, that is poison. If it found the
-- bit set, a quiet read through a clean Own gave the content at the look's number, and one through a Ref gave that content, or poison
-- if another log has the title's next Free.
pub record HasReads (history : Title → List Done) (v : View) : Type 0 where
  pub freed : paired_of v gave_no_poison ≡ 0
  pub own : (t : Title) (found value : ℕ) → held_of found ≡ 1 → 0 < paired_of v (quiet_read true t found value) →
      value ≡ content_at_number (number_of found) (history t)
  pub ref : (r : ℕ) (t : Title) (found value : ℕ) → held_of found ≡ 1 → 0 < paired_of_by v r (quiet_read false t found value) →
      (value ≡ content_at_number (number_of found) (history t))
      ⊎ ((value ≡ poison) × IsFreedElsewhere (logged_of_by v) (history t) t r (number_of found))

-- What a view with every stake knows of all logs: each title has a history that its logs chain, and each read in them gave what it
-- should. Titles that they name are well formed, and two titles with one start and one `born` are the same.
pub record HasAllLogs (v : View) : Type 0 where
  pub history : Title → List Done
  pub chain : (t : Title) → IsChained (logged_of v) t (history t)
  pub well : (t : Title) → 0 < logged_of v (names t) → IsWellFormed (length v.words) t
  pub one_name : (t u : Title) → 0 < logged_of v (names t) → 0 < logged_of v (names u) → t.start ≡ u.start → t.born ≡ u.born → t ≡ u
  pub reads : HasReads history v

-- what a read with stake r should give, of a title with this history
pub record IsReadRight (history : List Done) (v : View) (r : ℕ) (t : Title) (found value : ℕ) (since : Deeds) (owned unclean : Bool)
    : Type 0 where
  pub freed : held_of found ≡ 0 → since.handed ≡ false → value ≡ poison
  pub own : held_of found ≡ 1 → is_quiet since ≡ true → unclean ≡ false → owned ≡ true → value ≡ content_at_number (number_of found) history
  pub ref : held_of found ≡ 1 → is_quiet since ≡ true → unclean ≡ false →
      (value ≡ content_at_number (number_of found) history)
      ⊎ ((value ≡ poison) × IsFreedElsewhere (logged_of_by v) history t r (number_of found))

-- this holds for each read right after a look at its title, in each log of the view
abbrev pub AreReadsRight : (Title → List Done) → View → Type 0
AreReadsRight history v =
    (i : ℕ) (s : Stake) (before later : List Entry) (t : Title) (found place value : ℕ) (since : Deeds) (owned unclean : Bool) →
    get_elem? v.stakes i ≡ some s → s.log ≡ before ++ Looked t found ∷ Read t place value since owned unclean ∷ later →
    IsReadRight (history t) v s.number t found value since owned unclean
