-- The pool is asked for super pages: what its entry says, and what its note has.
use Rattle.std.specs.Prelude.{◌≡◌, ℕ, ◌≤◌, [], ◌∷◌, length, Option, Some, slice_get}
use Rattle.pa_region.specs.declared.view.Entry.TheVariants.{Entered}
use Rattle.pa_region.specs.declared.view.Made.{Made}
use Rattle.pa_region.specs.declared.view.View.{View}
use Rattle.pa_region.specs.Lists.{list_of}
use Rattle.pa_region.specs.Lending.{Lends}
use Rattle.pa_record.specs.Numbers.{pool_numbers}
use Rattle.pa_pool.specs.Calls.{take_entry}
use Rattle.pa_root.specs.Reading.{pools_seen}
use Rattle.pa_root.specs.Making.{IsEnteredAt}
use Rattle.pa_root.specs.Filling.{HasRunOnly}

-- The pool was asked for `count` super pages for partition p, on this line, for a seat with the stake r. Entry `index` of the pool
-- was made for it, and says what was found. The seat has seen that entry. The root's seat, which only showed what it saw, hasn't.
pub record IsAskedFor (r line p count : ℕ) (found : Option ℕ) (index : ℕ) (v after root : View) : Type 0 where
  pub made : Made
  pub is_made : IsEnteredAt index r 4 (pool_numbers (take_entry line p count found)) v after made
  pub lends : Lends r (Entered 4 made ∷ []) v after
  pub stands : slice_get (pools_seen after) index ≡ Some (take_entry line p count found)
  pub later : length (list_of 4 root) ≤ index

-- The note of a take that found the super pages from `first` on has them, and has seen what the seat has seen of the pool's list.
pub record IsRunNote (first count index : ℕ) (after note : View) : Type 0 where
  pub has : HasRunOnly first count index index note
  pub list : list_of 4 note ≡ list_of 4 after
