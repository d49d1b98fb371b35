-- What takes, returns and decommits leave of a root.
use Rattle.std.specs.Prelude.{◌≡◌, ◌≢◌, ℕ, ◌+◌, ◌-◌, ◌*◌, ◌≤◌, ◌⊎◌, Bool, true, List, length, Some, Contains, AllPairs}
use Rattle.pa_slot.specs.declared.title.Title.{Title}
use Rattle.pa_slot.specs.declared.word.SlotName.{SlotName}
use Rattle.pa_buckets.specs.Table.{slot_of}
use Rattle.pa_record.specs.Spans.{Span, name_of}
use Rattle.pa_record.specs.Root.{Root, Took, Filled, empties, IsOut}
use Rattle.pa_record.specs.Sound.{IsSound, IsMade}

-- s passes the test, and no other span that does has a greater turn
pub record IsLatest (test : Span → Bool) (ss : List Span) (s : Span) : Type 0 where
  pub among : Contains ss s
  pub passes : test s ≡ true
  pub most : (t : Span) → Contains ss t → test t ≡ true → t.turn ≤ s.turn

-- s passes the test, and no other span that does has a lesser turn
pub record IsEarliest (test : Span → Bool) (ss : List Span) (s : Span) : Type 0 where
  pub among : Contains ss s
  pub passes : test s ≡ true
  pub least : (t : Span) → Contains ss t → test t ≡ true → s.turn ≤ t.turn

-- What a take leaves and gives: the slot was made and is out, the root is sound with no more empty spans, and all that
-- was out or made before still is.
pub record IsGiven (class : ℕ) (r : Root) (took : Took) : Type 0 where
  pub title : Title
  pub gives : took.title ≡ Some title
  pub sound : IsSound took.root
  pub settled : empties took.root ≤ empties r
  pub rises : r.turn ≤ took.root.turn
  pub turn : took.root.turn ≤ r.turn + 1
  pub supers : took.root.supers ≡ r.supers
  pub maps : took.root.maps ≡ r.maps
  pub len : title.len ≡ slot_of class
  pub made : IsMade took.root title
  pub fresh : IsOut r (name_of title) → ⊥
  pub out : IsOut took.root (name_of title)
  pub stays : (name : SlotName) → IsOut r name → IsOut took.root name
  pub only : (name : SlotName) → IsOut took.root name → IsOut r name ⊎ (name ≡ name_of title)
  pub keeps : (t : Title) → IsMade r t → IsMade took.root t

-- What a fill leaves and gives: at most as many slots as were wanted, none of which was out before, all of which are.
pub record IsFilled (class want : ℕ) (r : Root) (f : Filled) : Type 0 where
  pub sound : IsSound f.root
  pub settled : empties f.root ≤ empties r
  pub rises : r.turn ≤ f.root.turn
  pub turn : f.root.turn ≤ r.turn + want
  pub supers : f.root.supers ≡ r.supers
  pub maps : f.root.maps ≡ r.maps
  pub many : length f.titles ≤ want
  pub len : (t : Title) → Contains f.titles t → t.len ≡ slot_of class
  pub made : (t : Title) → Contains f.titles t → IsMade f.root t
  pub fresh : (t : Title) → Contains f.titles t → IsOut r (name_of t) → ⊥
  pub out : (t : Title) → Contains f.titles t → IsOut f.root (name_of t)
  pub differ : AllPairs (λ (t : Title) (u : Title). name_of t ≢ name_of u) f.titles
  pub stays : (name : SlotName) → IsOut r name → IsOut f.root name
  pub only : (name : SlotName) → IsOut f.root name → IsOut r name ⊎ ((t : Title) × Contains f.titles t × (name ≡ name_of t))
  pub keeps : (t : Title) → IsMade r t → IsMade f.root t

-- What every step that takes no slot leaves: a sound root, of which nothing more is out and all that was made still is.
pub record TakesNothing (r after : Root) : Type 0 where
  pub sound : IsSound after
  pub rises : r.turn ≤ after.turn
  pub supers : after.supers ≡ r.supers
  pub maps : after.maps ≡ r.maps
  pub keeps : (t : Title) → IsMade r t → IsMade after t
  pub only : (name : SlotName) → IsOut after name → IsOut r name

-- the oldest empty span was decommitted n times, and nothing else changed
pub record IsDecommittedTimes (n : ℕ) (r after : Root) : Type 0 where
  pub kept : TakesNothing r after
  pub turn : after.turn ≤ r.turn + n
  pub fewer : empties after ≡ empties r - n
  pub stays : (name : SlotName) → IsOut r name → IsOut after name

-- Slots are returned: they aren't out any more, all others that were out still are, and at most 16 spans stay empty.
pub record IsReturned (names : List SlotName) (r after : Root) : Type 0 where
  pub kept : TakesNothing r after
  pub turn : after.turn ≤ r.turn + 2 * length names
  pub settled : empties r ≤ 16 → empties after ≤ 16
  pub stays : (other : SlotName) → (Contains names other → ⊥) → IsOut r other → IsOut after other
  pub back : (name : SlotName) → Contains names name → IsOut after name → ⊥
