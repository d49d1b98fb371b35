-- Lists of indices of the spans that pass a test.
use Rattle.std.specs.Prelude.{◌≡◌, ◌<◌, ◌≤◌, ◌==◌, if◌then◌else◌, ℕ, Bool, true, false, List, [], ◌∷◌, ◌++◌, length, Some, Contains, AllPairs, count_by, slice_get, Vec}
use Rattle.std.specs.Vec.{vec_capacity}
use Rattle.std.specs.declared.alloc.Global.{Global}
use Rattle.pa_buckets.specs.declared.spans.State.{State}
use Rattle.pa_buckets.specs.Limits.{class_count}
use Rattle.pa_record.specs.Spans.{Span, is_of}

-- the span at i has a lesser turn than that at j
abbrev pub IsSooner : List Span → ℕ → ℕ → Type 0
IsSooner ss i j = (s t : Span) → slice_get ss i ≡ Some s → slice_get ss j ≡ Some t → s.turn < t.turn

-- just the spans that pass are listed, in the order of their turns
pub record IsListing (test : Span → Bool) (ss : List Span) (ids : List ℕ) : Type 0 where
  pub here : (i : ℕ) → Contains ids i → (s : Span) × (slice_get ss i ≡ Some s) × (test s ≡ true)
  pub all : (i : ℕ) (s : Span) → slice_get ss i ≡ Some s → test s ≡ true → Contains ids i
  pub order : AllPairs (IsSooner ss) ids
  pub many : length ids ≡ count_by test ss

-- the test whether a span is of the class
abbrev pub is_class : ℕ → Span → Bool
is_class class s = s.class == class

-- for each class its spans in a state are listed, in a list that has room for all spans of the class
pub record AreListed (a : State) (ss : List Span) (lists : List (Vec ℕ Global)) : Type 0 where
  pub classes : length lists ≡ class_count
  pub listing : (class : ℕ) (list : Vec ℕ Global) → slice_get lists class ≡ Some list → IsListing (is_of class a) ss list.items
  pub room : (class : ℕ) (list : Vec ℕ Global) → slice_get lists class ≡ Some list → count_by (is_class class) ss ≤ vec_capacity list

-- there is room for that many in the list of the class
abbrev pub HasListRoom : ℕ → ℕ → List (Vec ℕ Global) → Type 0
HasListRoom class n lists = (list : Vec ℕ Global) → slice_get lists class ≡ Some list → n ≤ vec_capacity list

-- the list without an index
abbrev pub without_index : ℕ → List ℕ → List ℕ
without_index i [] = []
without_index i (k ∷ ids) = if k == i then ids else k ∷ without_index i ids

-- The list after the span at i changed, by whether it was to be listed before and is after: it leaves the list, comes to
-- its end, or stays where it is.
abbrev pub refiled : Bool → Bool → ℕ → List ℕ → List ℕ
refiled true true i ids = ids
refiled true false i ids = without_index i ids
refiled false true i ids = ids ++ i ∷ []
refiled false false i ids = ids

-- spans are listed in the order of their turns
pub record IsInTurn (ss : List Span) (ids : List ℕ) : Type 0 where
  pub within : (i : ℕ) → Contains ids i → i < length ss
  pub order : AllPairs (IsSooner ss) ids

-- the first `count` that are listed have a lesser turn, and the others don't
pub record IsTurnCut (ss : List Span) (turn : ℕ) (ids : List ℕ) (count : ℕ) : Type 0 where
  pub before : (k i : ℕ) (s : Span) → k < count → slice_get ids k ≡ Some i → slice_get ss i ≡ Some s → s.turn < turn
  pub after : (k i : ℕ) (s : Span) → count ≤ k → slice_get ids k ≡ Some i → slice_get ss i ≡ Some s → turn ≤ s.turn

-- the list is in the order of turns, and has room for one more if one comes onto it
pub record CanRefile (ss : List Span) (was is : Bool) (list : Vec ℕ Global) : Type 0 where
  pub order : IsInTurn ss list.items
  pub room : was ≡ false → is ≡ true → length list.items < vec_capacity list

-- the list after the span at i was refiled, with as much room as before
pub record IsRefiled (was is : Bool) (i : ℕ) (old new : Vec ℕ Global) : Type 0 where
  pub items : new.items ≡ refiled was is i old.items
  pub room : vec_capacity new ≡ vec_capacity old
