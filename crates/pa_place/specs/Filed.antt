-- How the lists of a store say which spans are in which state.
use Rattle.std.specs.Prelude.{◌≡◌, ◌≤◌, ◌-◌, ℕ, Bool, List, length, Some, Option, slice_get, slice_set, Vec}
use Rattle.std.specs.Vec.{vec_capacity}
use Rattle.std.specs.declared.alloc.Global.{Global}
use Rattle.pa_buckets.specs.declared.spans.State.{State}
use Rattle.pa_buckets.specs.declared.spans.State.TheVariants as state
use Rattle.pa_buckets.specs.Limits.{class_count}
use Rattle.pa_record.specs.Spans.{Span, is_in, same_state}
use Rattle.pa_place.specs.declared.lists.Lists.{Lists}
use Rattle.pa_place.specs.Listing.{IsListing, AreListed, HasListRoom, CanRefile, IsRefiled}

-- the empty spans are listed, with room for 17, and for each class its active spans and its decommitted ones
pub record AreFiled (ss : List Span) (lists : Lists) : Type 0 where
  pub empty : IsListing (is_in state.Empty) ss lists.empty.items
  pub ring : 17 ≤ vec_capacity lists.empty
  pub active : AreListed state.Active ss lists.active.items
  pub decommitted : AreListed state.Decommitted ss lists.decommitted.items

-- there are lists for each class
pub record HasClasses (lists : Lists) : Type 0 where
  pub active : length lists.active.items ≡ class_count
  pub decommitted : length lists.decommitted.items ≡ class_count

-- there is room for that many spans of the class in its lists
pub record HasRoomToList (class n : ℕ) (lists : Lists) : Type 0 where
  pub active : HasListRoom class n lists.active.items
  pub decommitted : HasListRoom class n lists.decommitted.items

-- the list of the class can be refiled
abbrev pub CanRefileAt : List Span → ℕ → Bool → Bool → List (Vec ℕ Global) → Type 0
CanRefileAt ss class was is lists = (list : Vec ℕ Global) → slice_get lists class ≡ Some list → CanRefile ss was is list

-- the list of the class was refiled, and those of the other classes are as they were
abbrev pub IsRefiledAt : ℕ → Bool → Bool → ℕ → List (Vec ℕ Global) → List (Vec ℕ Global) → Type 0
IsRefiledAt class was is i old new =
    (list : Vec ℕ Global) × (next : Vec ℕ Global) × (slice_get old class ≡ Some list) × IsRefiled was is i list next
    × (new ≡ slice_set old class next)

-- the lists can take a span of the class from one state into another
pub record CanFile (ss : List Span) (class : ℕ) (was to : State) (lists : Lists) : Type 0 where
  pub classes : HasClasses lists
  pub empty : CanRefile ss (same_state was state.Empty) (same_state to state.Empty) lists.empty
  pub active : CanRefileAt ss class (same_state was state.Active) (same_state to state.Active) lists.active.items
  pub decommitted : CanRefileAt ss class (same_state was state.Decommitted) (same_state to state.Decommitted) lists.decommitted.items

-- the lists after the span with index i, of this class, went from the one state into the other
pub record IsFiledAnew (class : ℕ) (was to : State) (i : ℕ) (old new : Lists) : Type 0 where
  pub empty : IsRefiled (same_state was state.Empty) (same_state to state.Empty) i old.empty new.empty
  pub active : IsRefiledAt class (same_state was state.Active) (same_state to state.Active) i old.active.items new.active.items
  pub decommitted : IsRefiledAt class (same_state was state.Decommitted) (same_state to state.Decommitted) i
      old.decommitted.items new.decommitted.items

-- the last of a list
abbrev pub last_of : List ℕ → Option ℕ
last_of ids = slice_get ids (length ids - 1)
