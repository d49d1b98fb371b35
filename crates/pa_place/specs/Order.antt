-- The order of the spans of a root, by which one is searched.
use Rattle.std.specs.Prelude.{◌≡◌, ℕ, ◌+◌, ◌<◌, ◌≤◌, ◌⊎◌, ◌==◌, ◌&&◌, ◌||◌, nat_lt, Bool, true, false, List, Some, AllPairs, slice_get}
use Rattle.pa_slot.specs.declared.word.SlotName.{SlotName}
use Rattle.pa_record.specs.declared.taken.SuperPage.{SuperPage}
use Rattle.pa_record.specs.Spans.{Span, bytes_of}
use Rattle.pa_record.specs.Root.{Root}

-- s comes before t: its super page was taken before, or it ends before t in the same
abbrev pub IsBefore : Span → Span → Type 0
IsBefore s t = (s.born < t.born) ⊎ ((s.born ≡ t.born) × (s.place + bytes_of s ≤ t.place))

-- the super page a was taken before b
abbrev pub IsOlder : SuperPage → SuperPage → Type 0
IsOlder a b = a.born < b.born

-- the spans and the super pages are in order
pub record IsOrdered (r : Root) : Type 0 where
  pub spans : AllPairs IsBefore r.spans
  pub supers : AllPairs IsOlder r.supers

-- the span starts after the slot of that name, or its super page was taken later
abbrev pub starts_after : SlotName → Span → Bool
starts_after name s = nat_lt name.born s.born || ((name.born == s.born) && nat_lt name.start s.place)

-- the first `count` spans don't start after the name, and the others do
pub record IsCut (name : SlotName) (ss : List Span) (count : ℕ) : Type 0 where
  pub before : (i : ℕ) (s : Span) → i < count → slice_get ss i ≡ Some s → starts_after name s ≡ false
  pub after : (i : ℕ) (s : Span) → count ≤ i → slice_get ss i ≡ Some s → starts_after name s ≡ true
