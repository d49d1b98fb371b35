-- What holds of a root at every moment.
use Rattle.std.specs.Prelude.{◌≡◌, ◌≢◌, ℕ, ◌+◌, ◌*◌, ◌/◌, ◌<◌, ◌≤◌, ◌⊎◌, min, false, List, [], ◌∷◌, length, Option, Some, None, Contains, AllPairs}
use Rattle.pa_slot.specs.declared.title.Title.{Title}
use Rattle.pa_slot.specs.declared.word.SlotName.{SlotName}
use Rattle.pa_layout.specs.Pages.{page_place, supers_for}
use Rattle.pa_buckets.specs.declared.spans.State.{State}
use Rattle.pa_buckets.specs.declared.spans.State.TheVariants as state
use Rattle.pa_buckets.specs.Limits.{class_count}
use Rattle.pa_buckets.specs.Table.{slot_of, pages_of, system_of, slots_of}
use Rattle.pa_record.specs.declared.taken.SuperPage.{SuperPage}
use Rattle.pa_record.specs.Spans.{Span, bytes_of, title_at, is_in, same_place}
use Rattle.pa_record.specs.declared.pool.PoolEntry.{PoolEntry}
use Rattle.pa_record.specs.declared.root.RootEntry.{RootEntry}
use Rattle.pa_record.specs.declared.root.RootAct.{RootAct}
use Rattle.pa_record.specs.declared.root.RootAct.TheVariants.{Fill, Map, Full, Give, Unmap, Purge}
use Rattle.pa_record.specs.Pool.{FoundRun}
use Rattle.pa_record.specs.Root.{Root, new_root, current, empties, map_title, root_replayed, names, asked_by, IsOut}

-- what a state says of how many slots are out: a span that has no state yet has none out
abbrev pub StateSays : State → Span → Type 0
StateSays state.None s = s.allocated ≡ 0
StateSays state.Active s = (1 ≤ s.allocated) × (s.allocated < slots_of s.class)
StateSays state.Empty s = s.allocated ≡ 0
StateSays state.Decommitted s = (s.allocated ≡ 0) × (s.provisioned ≡ 0) × (s.committed ≡ 0)
StateSays state.Full s = s.allocated ≡ slots_of s.class

-- A span's numbers agree. The list has what is provisioned and not out, each number once. As many slots are provisioned as fit
-- into the committed pages, and no more are made than the class's spans have.
pub record IsCounted (s : Span) : Type 0 where
  pub class : s.class < class_count
  pub listed : s.allocated + length s.free ≡ s.provisioned
  pub numbers : (n : ℕ) → Contains s.free n → n < s.provisioned
  pub once : AllPairs ◌≢◌ s.free
  pub provisioned : s.provisioned ≡ min (4096 * s.committed / slot_of s.class) (slots_of s.class)
  pub committed : s.committed ≤ system_of s.class
  pub made : s.provisioned ≤ s.made
  pub most : s.made ≤ slots_of s.class

-- a span is sound: its numbers agree, and so does its state
pub record IsSoundSpan (s : Span) : Type 0 where
  pub counted : IsCounted s
  pub says : StateSays s.state s

-- the span lies on payload pages of one of the root's super pages
pub record IsPlaced (r : Root) (s : Span) (at : SuperPage) (page : ℕ) : Type 0 where
  pub among : Contains r.supers at
  pub born : s.born ≡ at.born
  pub place : s.place ≡ page_place at.number page
  pub first : 1 ≤ page
  pub last : page + pages_of s.class ≤ 127

-- two spans have no byte in common
abbrev pub AreApart : Span → Span → Type 0
AreApart s t = (s.place + bytes_of s ≤ t.place) ⊎ (t.place + bytes_of t ≤ s.place)

-- A root is sound: each span is sound and lies on payload pages, in the current super page below the next free page; no two
-- are in one place, spans of one super page have no byte in common, and those that entered a state did so with
-- different turns; and a direct map has an entry of the pool to itself.
pub record IsSound (r : Root) : Type 0 where
  pub spans : (s : Span) → Contains r.spans s → IsSoundSpan s
  pub placed : (s : Span) → Contains r.spans s → (at : SuperPage) × (page : ℕ) × IsPlaced r s at page
  pub below : (s : Span) (at : SuperPage) → Contains r.spans s → current r ≡ Some at → s.born ≡ at.born →
      s.place + bytes_of s ≤ page_place at.number r.page
  pub pages : (at : SuperPage) → current r ≡ Some at → (1 ≤ r.page) × (r.page ≤ 127)
  pub places : AllPairs (λ s t. same_place s t ≡ false) r.spans
  pub apart : (s t : Span) → Contains r.spans s → Contains r.spans t → same_place s t ≡ false → s.born ≡ t.born → AreApart s t
  pub turns : (s : Span) → Contains r.spans s → is_in state.None s ≡ false → s.turn < r.turn
  pub order : (s t : Span) → Contains r.spans s → Contains r.spans t → same_place s t ≡ false →
      is_in state.None s ≡ false → is_in state.None t ≡ false → s.turn ≢ t.turn
  pub mixed : (t : Title) (at : SuperPage) → Contains r.maps t → Contains r.supers at → t.born ≢ at.born
  pub alone : AllPairs (λ (t : Title) (u : Title). t.born ≢ u.born) r.maps

-- at most 16 spans of the root are empty
abbrev pub IsSettled : Root → Type 0
IsSettled r = empties r ≤ 16

-- each entry of the pool by which the root has super pages is below n
pub record IsBornBelow (n : ℕ) (r : Root) : Type 0 where
  pub supers : (at : SuperPage) → Contains r.supers at → at.born < n
  pub maps : (t : Title) → Contains r.maps t → t.born < n

-- the title is a slot of one of the root's spans, and was made
abbrev pub IsMade : Root → Title → Type 0
IsMade r t = (s : Span) × Contains r.spans s × (number : ℕ) × (number < s.made) × (t ≡ title_at s number)

-- the title is that of a direct map that an entry of the journal made
abbrev pub IsMapBy : List RootEntry → Title → Type 0
IsMapBy journal t =
    (e : RootEntry) × (asked len : ℕ) × (slot : SlotName) × Contains journal e × (e.act ≡ Map asked slot len) × (t ≡ map_title slot len)

-- a journal makes the title: it is that of a slot that was cut, which the spans of its root record for good, or of a direct
-- map, whether or not it went back
abbrev pub IsMadeBy : List PoolEntry → List RootEntry → Title → Type 0
IsMadeBy pools journal t = IsMade (root_replayed pools journal new_root) t ⊎ IsMapBy journal t

-- two titles have no byte in common
abbrev pub TitlesApart : Title → Title → Type 0
TitlesApart t u = (t.start + t.len ≤ u.start) ⊎ (u.start + u.len ≤ t.start)

-- the title lies in the payload, partition pages 1 to 126, of the super page that its entry of the pool took
abbrev pub IsInOwn : List PoolEntry → Title → Type 0
IsInOwn pools t =
    (first : ℕ) × FoundRun pools t.born 1 first × (page_place first 1 ≤ t.start) × (t.start + t.len ≤ page_place first 127)

-- The title is a direct map: it starts right after the first guard of the super pages that its entry of the pool took, as many
-- as it needs, and a guard follows it.
pub record IsMapped (pools : List PoolEntry) (t : Title) (first : ℕ) : Type 0 where
  pub taken : FoundRun pools t.born (supers_for t.len) first
  pub start : t.start ≡ page_place first 1
  pub guard : t.start + t.len + 16384 ≤ 2097152 * (first + supers_for t.len)

-- Of the titles that were made, those of one entry of the pool are equal or don't overlap, and each lies in the payload of its
-- own super page or is a direct map.
pub record AreTitles (pools : List PoolEntry) (WasMade : Title → Type 0) : Type 0 where
  pub apart : (t u : Title) → WasMade t → WasMade u → t.born ≡ u.born → (t ≡ u) ⊎ TitlesApart t u
  pub lie : (t : Title) → WasMade t → IsInOwn pools t ⊎ ((first : ℕ) × IsMapped pools t first)

-- the slots that an entry gives back to the root
abbrev pub given_back : RootAct → List SlotName
given_back (Fill class asked slots) = []
given_back (Map asked slot len) = []
given_back (Full class asked) = []
given_back (Give slots) = names slots
given_back (Unmap asked slot) = []
given_back Purge = []

-- the act's batch, if it has one, has at most 16 slots
abbrev pub HasBatch : RootAct → Type 0
HasBatch (Fill class asked slots) = length slots ≤ 16
HasBatch (Map asked slot len) = Unit {0}
HasBatch (Full class asked) = Unit {0}
HasBatch (Give slots) = length slots ≤ 16
HasBatch (Unmap asked slot) = Unit {0}
HasBatch Purge = Unit {0}

-- the entry of the pool that is named, if one is, is n or later
abbrev pub AsksFrom : ℕ → Option ℕ → Type 0
AsksFrom n None = Unit {0}
AsksFrom n (Some j) = n ≤ j

-- the first entry of the pool that may be named next: the one after the entry that was named, or n if none was
abbrev pub least_after : ℕ → Option ℕ → ℕ
least_after n None = n
least_after n (Some j) = j + 1

-- What an entry that fits leaves: a sound root, at most 16 empty spans, turns that rose by at most 32. What is out and isn't
-- given back stays out, and what is given back isn't out. The entries of the pool that the root has are those that it had and
-- the one that is named.
pub record IsNext (n : ℕ) (act : RootAct) (r after : Root) : Type 0 where
  pub sound : IsSound after
  pub settled : IsSettled after
  pub rises : r.turn ≤ after.turn
  pub turn : HasBatch act → after.turn ≤ r.turn + 32
  pub stays : (name : SlotName) → IsOut r name → (Contains (given_back act) name → ⊥) → IsOut after name
  pub back : (name : SlotName) → Contains (given_back act) name → IsOut after name → ⊥
  pub keeps : (t : Title) → IsMade r t → IsMade after t
  pub born : IsBornBelow (least_after n (asked_by act)) after
  pub supers : (at : SuperPage) → Contains after.supers at → Contains r.supers at ⊎ (n ≤ at.born)

-- the first entry of the pool that may be named after these entries
abbrev pub least_after_all : ℕ → List RootEntry → ℕ
least_after_all n [] = n
least_after_all n (e ∷ es) = least_after_all (least_after n (asked_by e.act)) es
