-- The plain store as a root, and what it keeps.
use Rattle.std.specs.Prelude.{◌≡◌, ℕ, ◌+◌, ◌<◌, ◌≤◌, List, length, Option, Some, None, IsSome, IsNone, true, false, slice_get, slice_set, All, Contains, vec_len, nat_le, if◌then◌else◌}
use Rattle.std.specs.Vec.{vec_capacity}
use Rattle.pa_buckets.specs.declared.spans.State.{State}
use Rattle.pa_buckets.specs.declared.spans.State.TheVariants as state
use Rattle.pa_buckets.specs.Table.{pages_of, slots_of}
use Rattle.pa_record.specs.declared.taken.SuperPage.{SuperPage}
use Rattle.pa_record.specs.Pool.{PoolState}
use Rattle.pa_record.specs.Spans.{Span, is_in}
use Rattle.pa_record.specs.Root.{Root, Found, in_state, turn_after, opened, span_for}
use Rattle.pa_record.specs.Sound.{IsSound, IsSettled}
use Rattle.pa_place.specs.declared.store.Store.{Store}
use Rattle.pa_place.specs.declared.room.Room.{Room}
use Rattle.pa_place.specs.Filed.{AreFiled, HasRoomToList}
use Rattle.pa_place.specs.Order.{IsOrdered}
use Rattle.pa_place.specs.Placed.{IsAsked}
use Rattle.pa_place.specs.Served.{blank_span}

-- the root that a store contains: the items of its vectors, its next free page and its next turn
abbrev pub root_of : Store → Root
root_of s = record { supers = s.supers.items; page = s.page; turn = s.turn; maps = s.maps.items; spans = s.spans.items }

-- each super page of the root lies in the region
abbrev pub HasLowSupers : Root → Type 0
HasLowSupers r = (at : SuperPage) → Contains r.supers at → at.number < 64

-- a store in which a take may be made
pub record IsReady (r : Root) : Type 0 where
  pub sound : IsSound r
  pub low : HasLowSupers r

-- the span at that index of the list has slots that aren't out
abbrev pub IsUsableAt : Root → ℕ → Type 0
IsUsableAt r at = (s : Span) × (slice_get r.spans at ≡ Some s) × (s.allocated < slots_of s.class)

-- The span from which a take is made is at this index, in a root with it; if there is none, nothing changed.
abbrev pub FindsPlace : ℕ → Root → Root → Option ℕ → Type 0
FindsPlace class r after None = (span_for class r ≡ None) × (after ≡ r)
FindsPlace class r after (Some at) = (f : Found) × (span_for class r ≡ Some f) × (f.root ≡ after) × (slice_get after.spans at ≡ Some f.span)

-- that many blank spans of the class are ready
pub record HasBlanks (class n : ℕ) (blanks : List Span) : Type 0 where
  pub many : n ≤ length blanks
  pub blank : All (λ s. s ≡ blank_span class) blanks

-- the current super page, if it has room for a span of the class
abbrev pub room_for : ℕ → Root → Option SuperPage → Option SuperPage
room_for class r None = None
room_for class r (Some at) = if nat_le (r.page + pages_of class) 127 then Some at else None

-- the spans of a store are listed by their states
abbrev pub IsFiled : Store → Type 0
IsFiled s = AreFiled s.spans.items s.lists

-- each span that entered a state did so before that turn
abbrev pub HaveTurns : List Span → ℕ → Type 0
HaveTurns ss turn = (i : ℕ) (s : Span) → slice_get ss i ≡ Some s → is_in state.None s ≡ false → s.turn < turn

-- the root in which the span there entered the state
abbrev pub EntersAt : Root → Root → ℕ → State → Type 0
EntersAt r after at to =
    (s : Span) → slice_get r.spans at ≡ Some s →
    after ≡ record r { spans = slice_set r.spans at (in_state to r.turn s); turn = turn_after to r.turn s }

-- What a store keeps between calls: a sound root of which at most 16 spans are empty, whose spans are in order and listed
-- by their states, and lists that aren't too long.
pub record IsStoreSound (s : Store) : Type 0 where
  pub ready : IsReady (root_of s)
  pub settled : IsSettled (root_of s)
  pub ordered : IsOrdered (root_of s)
  pub filed : IsFiled s
  pub supers : length s.supers.items ≤ 2147483647
  pub maps : length s.maps.items ≤ 2147483647
  pub spans : vec_len s.spans ≤ 2147483647

-- there is room for that many more spans of the class, for one super page, and for one direct map
pub record HasRoomFor (s : Store) (class spans : ℕ) : Type 0 where
  pub lists : HasRoomToList class (vec_len s.spans + spans) s.lists
  pub room : vec_len s.spans + spans ≤ vec_capacity s.spans
  pub few : vec_len s.spans + spans ≤ 2147483647

-- there is room for one super page more, and at most 2,147,483,646 are there
pub record HasSuperRoom (s : Store) : Type 0 where
  pub room : vec_len s.supers < vec_capacity s.supers
  pub few : length s.supers.items < 2147483647

-- there is room for one direct map more, and at most 2,147,483,646 are there
pub record HasMapRoom (s : Store) : Type 0 where
  pub room : vec_len s.maps < vec_capacity s.maps
  pub few : length s.maps.items < 2147483647

-- there is the room that is promised, and for each take a blank span
pub record HasRooms (s : Store) (blanks : List Span) (room : Room) : Type 0 where
  pub takes : 1 ≤ room.takes → HasRoomFor s room.class room.takes × HasBlanks room.class room.takes blanks
  pub super_page : room.super_page ≡ true → HasSuperRoom s
  pub map : room.map ≡ true → HasMapRoom s

-- the super pages that the pool found become the current ones
abbrev pub opened_where : Option ℕ → ℕ → Root → Root
opened_where None entry r = r
opened_where (Some first) entry r = opened first entry r

-- the pool was asked exactly when there is no span for the class
abbrev pub AsksWhere : ℕ → PoolState → PoolState → Root → Root → Option ℕ → Type 0
AsksWhere class pool next r after None = IsSome (span_for class r) × (next ≡ pool) × (after ≡ r)
AsksWhere class pool next r after (Some entry) =
    IsNone (span_for class r) × (found : Option ℕ) × IsAsked 1 entry found pool next × (after ≡ opened_where found entry r)
