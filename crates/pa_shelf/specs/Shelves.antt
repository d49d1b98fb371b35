-- The spans of a root in records and chains: what is kept beside its seat, and which root that shows with the seat's view.
use Rattle.std.specs.Prelude.{◌≡◌, ◌≢◌, ℕ, ◌+◌, ◌<◌, ◌≤◌, List, [], length, AllPairs, Contains, slice_index}
use Rattle.pa_slot.specs.declared.title.Title.{Title}
use Rattle.pa_slot.specs.Links.{first_word, front_of}
use Rattle.pa_buckets.specs.Table.{slot_of}
use Rattle.pa_buckets.specs.declared.spans.State.TheVariants as state
use Rattle.pa_record.specs.declared.taken.SuperPage.{SuperPage}
use Rattle.pa_record.specs.Spans.{Span, title_at, name_of}
use Rattle.pa_record.specs.Root.{Root, new_root, IsOutOf}
use Rattle.pa_record.specs.Sound.{IsSound, IsSettled}
use Rattle.pa_region.specs.declared.view.View.{View}
use Rattle.pa_region.specs.Views.{free_of}
use Rattle.pa_spans.specs.declared.span.Span.{Span as SpanRecord}
use Rattle.pa_spans.specs.Lists.{SpanListParts, Stand, no_lists}
use Rattle.pa_records.specs.Words.{record_word, spans_in}
use Rattle.pa_records.specs.Records.{titles_free, HasSpans}
use Rattle.pa_records.specs.Stored.{AreStored}
use Rattle.pa_meta.specs.Meta.{HasRawRecord}
use Rattle.pa_meta.specs.Stores.{IsPayloadOf, HasSpanAt}
use Rattle.pa_link.specs.declared.chain.ChainParts.{ChainParts}
use Rattle.pa_link.specs.Chains.{slot_names, IsChain}

-- The super pages in the order in which they were taken, the direct maps, the next free page, and the heads of the lists of spans.
pub record ShelfParts : Type 0 where
  pub supers : List SuperPage
  pub maps : List Title
  pub page : ℕ
  pub lists : SpanListParts

-- the root's parts at the start: no super page, no direct map, and empty lists
abbrev pub no_shelf : ShelfParts
no_shelf = record { supers = []; maps = []; page = 0; lists = no_lists }

-- the chain of a span's free slots
abbrev pub chain_of : Span → ChainParts
chain_of s = record { slot_len = slot_of s.class; head = front_of (slot_names (titles_free s)); len = length s.free }

-- a record that isn't in use has turn 0
abbrev pub StartsAtZero : SpanRecord → Type 0
StartsAtZero x = x.state ≡ state.None → x.turn ≡ 0

-- The records keep the root. It has these super pages, which lie in a region and differ in number, direct maps and turn. Each payload
-- page has a record of its own, of turn 0 if it isn't in use. The lists are those of the spans that the words have,
-- and these are the root's spans.
pub record RecordsRoot (v : View) (l : ShelfParts) (r : Root) : Type 0 where
  pub supers : r.supers ≡ l.supers
  pub maps : r.maps ≡ l.maps
  pub page : r.page ≡ l.page
  pub turn : r.turn ≡ l.lists.turn
  pub apart : AllPairs (λ (a b : SuperPage). a.number ≢ b.number) l.supers
  pub small : (a : SuperPage) → Contains l.supers a → a.number < 2048
  pub pages : (u : ℕ) → IsPayloadOf l.supers u → HasSpanAt v l.supers u
  pub unused : (u : ℕ) → HasSpanAt v l.supers u → StartsAtZero (spans_in v.words u)
  pub stand : Stand l.lists (spans_in v.words) (HasSpanAt v l.supers)
  pub few : length l.lists.ring ≤ 17
  pub stored : AreStored (spans_in v.words) (HasSpanAt v l.supers) r.spans

-- the root's view has the chain of each span's free slots
abbrev pub AreChained : View → List Span → Type 0
AreChained v ss = (s : Span) → Contains ss s → IsChain v (chain_of s) (titles_free s)

-- the records and the chains are those of the root
pub record ShowsRoot (v : View) (l : ShelfParts) (r : Root) : Type 0 where
  pub kept : RecordsRoot v l r
  pub chains : AreChained v r.spans

-- the records of these super pages are the same in another view, which holds them as raw too
pub record KeepsRecords (supers : List SuperPage) (v w : View) : Type 0 where
  pub words : (u q : ℕ) → IsPayloadOf supers u → record_word u ≤ q → q < record_word u + 4 →
      slice_index w.words q ≡ slice_index v.words q
  pub raw : (u : ℕ) → IsPayloadOf supers u → HasRawRecord v u → HasRawRecord w u

-- the view w holds the free slots of these spans, with the same first words as in v
abbrev pub KeepsChains : View → View → List Span → Type 0
KeepsChains v w ss = (s : Span) → Contains ss s → (t : Title) → Contains (titles_free s) t →
    (0 < free_of w t) × (first_word w.words (name_of t) ≡ first_word v.words (name_of t))

-- if a view shows a root, so does another view with the same records and chains
abbrev pub ShownStays : Type 0
ShownStays = (v w : View) (l : ShelfParts) (r : Root) → KeepsRecords l.supers v w → KeepsChains v w r.spans →
    ShowsRoot v l r → ShowsRoot w l r

-- The title is slot n of the span s of a sound root that is shown, and it is out of the root. The span starts at the offset.
pub record IsBackAt (v : View) (l : ShelfParts) (at : ℕ) (t : Title) (r : Root) (s : Span) (n : ℕ) : Type 0 where
  pub sound : IsSound r
  pub shown : ShowsRoot v l r
  pub among : Contains r.spans s
  pub here : s.place ≡ at
  pub titled : t ≡ title_at s n
  pub out : IsOutOf s (name_of t) n
  pub some : 1 ≤ s.allocated

-- the title is a slot of one of the root's spans, and out of it
abbrev pub IsSlotOut : Root → Title → Type 0
IsSlotOut r t = (s : Span) × Contains r.spans s × (n : ℕ) × IsOutOf s (name_of t) n × (t ≡ title_at s n)

-- Slots are out of a sound root that is shown and has at most 16 empty spans. They have different names, and the view has them free.
pub record AreBack (v : View) (l : ShelfParts) (ts : List Title) (r : Root) : Type 0 where
  pub sound : IsSound r
  pub settled : IsSettled r
  pub shown : ShowsRoot v l r
  pub out : (t : Title) → Contains ts t → IsSlotOut r t
  pub once : AllPairs (λ (t u : Title). name_of t ≢ name_of u) ts
  pub free : (t : Title) → Contains ts t → 0 < free_of v t

-- at the start the root has nothing
abbrev pub NoShelfIsNew : Type 0
NoShelfIsNew = (v : View) → ShowsRoot v no_shelf new_root

-- words of a root that is shown have it
abbrev pub ShownIsInWords : Type 0
ShownIsInWords = (v : View) (l : ShelfParts) (r : Root) → ShowsRoot v l r → HasSpans v.words r
