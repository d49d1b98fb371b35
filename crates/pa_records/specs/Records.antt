-- What words say of a root: the record of each of its spans is that of the span, and the span's free slots are chained.
use Rattle.std.specs.Prelude.{◌≡◌, ℕ, ◌+◌, ◌<◌, ◌≤◌, ◌==◌, ◌&&◌, nat_lt, Bool, List, [], ◌∷◌, map, Option, Some, None, Contains, slice_index}
use Rattle.pa_slot.specs.declared.title.Title.{Title}
use Rattle.pa_slot.specs.declared.word.SlotName.{SlotName}
use Rattle.pa_slot.specs.Links.{AreLinked, first_word}
use Rattle.pa_buckets.specs.declared.spans.State.{State}
use Rattle.pa_buckets.specs.declared.spans.State.TheVariants as state
use Rattle.pa_record.specs.declared.pool.PoolEntry.{PoolEntry}
use Rattle.pa_record.specs.declared.root.RootEntry.{RootEntry}
use Rattle.pa_record.specs.Spans.{Span, title_at, name_of, same_state, latest, earliest}
use Rattle.pa_record.specs.Root.{Root, new_root, root_replayed}
use Rattle.pa_spans.specs.declared.span.Span.{Span as SpanRecord}
use Rattle.pa_records.specs.Words.{record_word, IsRecordAt}

-- t is of the class of s, and in its state
abbrev pub is_beside : Span → Span → Bool
is_beside s t = (t.class == s.class) && same_state t.state s.state

-- of the spans beside s the one with the next lesser turn, if there is one
abbrev pub next_of : List Span → Span → Option Span
next_of ss s = latest (λ t. is_beside s t && nat_lt t.turn s.turn) ss

-- of the spans beside s the one with the next greater turn, if there is one
abbrev pub previous_of : List Span → Span → Option Span
previous_of ss s = earliest (λ t. is_beside s t && nat_lt s.turn t.turn) ss

-- where a span starts, 0 for none
abbrev pub start_or_zero : Option Span → ℕ
start_or_zero None = 0
start_or_zero (Some s) = s.place

-- The record of a span that is in a list names its neighbour there. A full span is in no list, and so is one that has entered
-- no state yet.
abbrev pub neighbour_in : State → Option Span → ℕ
neighbour_in state.None o = 0
neighbour_in state.Active o = start_or_zero o
neighbour_in state.Empty o = start_or_zero o
neighbour_in state.Decommitted o = start_or_zero o
neighbour_in state.Full o = 0

-- where the front of a list of the span's slots starts, 0 for none
abbrev pub front_start : Span → List ℕ → ℕ
front_start s [] = 0
front_start s (number ∷ numbers) = (title_at s number).start

-- the record of a span that has these neighbours
abbrev pub record_with : Span → ℕ → ℕ → SpanRecord
record_with s previous next = record {
  class = s.class;
  state = s.state;
  allocated = s.allocated;
  provisioned = s.provisioned;
  committed = s.committed;
  made = s.made;
  head = front_start s s.free;
  previous = previous;
  next = next;
  turn = s.turn;
}

-- the record of a span among these spans of its root
abbrev pub span_record : List Span → Span → SpanRecord
span_record ss s = record_with s (neighbour_in s.state (previous_of ss s)) (neighbour_in s.state (next_of ss s))

-- the words have the record of the span of its first page
abbrev pub HasRecord : List ℕ → List Span → Span → Type 0
HasRecord words ss s = IsRecordAt words (record_word s.place) (span_record ss s)

-- the titles of the span's free slots, front first
abbrev pub titles_free : Span → List Title
titles_free s = map (title_at s) s.free

-- the names of the span's free slots, front first
abbrev pub names_free : Span → List SlotName
names_free s = map name_of (titles_free s)

-- The words have the root: the record of each span is that of the span, and its free slots are chained in the order of its list.
pub record HasSpans (words : List ℕ) (r : Root) : Type 0 where
  pub records : (s : Span) → Contains r.spans s → HasRecord words r.spans s
  pub chains : (s : Span) → Contains r.spans s → AreLinked words (names_free s)

-- the words have the root of each of the four partitions, as the pool's entries and its journal replay to it
abbrev pub AreSpansIn : List PoolEntry → (ℕ → List RootEntry) → List ℕ → Type 0
AreSpansIn pools journals words = (p : ℕ) → p < 4 → HasSpans words (root_replayed pools (journals p) new_root)

-- other words are the same in the records of the root's spans, and in the first word of each of their free slots
pub record KeepsSpans (words others : List ℕ) (r : Root) : Type 0 where
  pub records : (s : Span) (q : ℕ) → Contains r.spans s → record_word s.place ≤ q → q < record_word s.place + 4 →
      slice_index others q ≡ slice_index words q
  pub firsts : (s : Span) (name : SlotName) → Contains r.spans s → Contains (names_free s) name →
      first_word others name ≡ first_word words name

-- if words have a root, so do others that are the same in its records and in the first words of its free slots
abbrev pub SpansStay : Type 0
SpansStay = (words others : List ℕ) (r : Root) → KeepsSpans words others r → HasSpans words r → HasSpans others r
