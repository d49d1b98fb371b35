-- A direct map is brought back: its title comes to the root's seat and is uncut, and its super pages go to the pool.
use Rattle.std.specs.Prelude.{◌≡◌, ℕ, ◌+◌, ◌≤◌, [], ◌∷◌, length, Some, slice_get, ◌*◌}
use Rattle.pa_slot.specs.declared.title.Title.{Title}
use Rattle.pa_layout.specs.Limits.{most_words}
use Rattle.pa_region.specs.declared.view.Entry.TheVariants.{Entered, Uncut}
use Rattle.pa_region.specs.declared.view.Made.{Made}
use Rattle.pa_region.specs.declared.view.View.{View}
use Rattle.pa_region.specs.Views.{seen_of}
use Rattle.pa_region.specs.Lists.{list_of, IsBeginning}
use Rattle.pa_region.specs.Hands.{united}
use Rattle.pa_region.specs.Aware.{IsAware}
use Rattle.pa_region.specs.Lending.{Lends}
use Rattle.pa_record.specs.Numbers.{pool_numbers}
use Rattle.pa_pool.specs.Calls.{give_entry}
use Rattle.pa_root.specs.Reading.{pools_seen}
use Rattle.pa_root.specs.Making.{IsEnteredAt}
use Rattle.pa_root.specs.Uncutting.{IsUncut}

-- The title came to the root's seat, which had shown the caller's seat what it had seen and had the view `shown` then. It was uncut
-- with the caller's stake r. The number is the one that the note had seen.
pub record IsTitleBack (r : ℕ) (t : Title) (number : ℕ) (v after root root_now note : View) : Type 0 where
  pub shown : View
  pub keeps : (k : ℕ) → Lends k [] root shown
  pub same : (k : ℕ) → list_of k shown ≡ list_of k root
  pub lists : (k : ℕ) → IsBeginning (list_of k shown) (list_of k after)
  pub lends : Lends r (Uncut t ∷ []) v after
  pub shown_aware : IsAware shown
  pub note_aware : IsAware note
  pub both_aware : IsAware (united shown note)
  pub long : length shown.words ≡ length note.words
  pub uncut : IsUncut t (united shown note) root_now
  pub numbered : number ≡ seen_of note t
  pub inside : t.start + t.len ≤ 8 * most_words

-- Super pages were given back to the pool for partition p, on this line, with the stake r: entry `index` of the pool says so, and
-- hadn't been seen before. The root's seat has seen it too.
pub record IsGivenFor (r line p first count index : ℕ) (v after root root_now : View) : Type 0 where
  pub made : Made
  pub is_made : IsEnteredAt index r 4 (pool_numbers (give_entry line p count first)) v after made
  pub lends : Lends r (Entered 4 made ∷ []) v after
  pub keeps : (k : ℕ) → Lends k [] root root_now
  pub stands : slice_get (pools_seen root_now) index ≡ Some (give_entry line p count first)
  pub later : length (list_of 4 v) ≤ index
