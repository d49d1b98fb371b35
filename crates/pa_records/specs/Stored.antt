-- A store of spans beside a root's spans: the records that it has are those of the spans.
use Rattle.std.specs.Prelude.{◌≡◌, ◌≢◌, ℕ, ◌%◌, false, List, Contains, AllPairs}
use Rattle.pa_record.specs.Spans.{Span, same_place}
use Rattle.pa_spans.specs.declared.span.Span.{Span as SpanRecord}
use Rattle.pa_spans.specs.Lists.{IsInUse}
use Rattle.pa_records.specs.Words.{record_word, IsRecordAt}
use Rattle.pa_records.specs.Records.{record_with}

-- a record without its neighbours
abbrev pub alone : SpanRecord → SpanRecord
alone x = record x { previous = 0; next = 0 }

-- The store has the record of each of these spans, but for its neighbours, and no span that is in use besides. No two of them
-- start in one place.
pub record AreStored (spans : ℕ → SpanRecord) (has : ℕ → Type 0) (ss : List Span) : Type 0 where
  pub had : (s : Span) → Contains ss s → has s.place
  pub numbers : (s : Span) → Contains ss s → alone (spans s.place) ≡ record_with s 0 0
  pub each : (u : ℕ) → has u → IsInUse (spans u) → (s : Span) × Contains ss s × (s.place ≡ u)
  pub one : (s t : Span) → Contains ss s → Contains ss t → s.place ≡ t.place → s ≡ t
  pub places : AllPairs (λ s t. same_place s t ≡ false) ss

-- The span t is in the place of s: of all records that of s alone is another one, but for neighbours.
pub record IsStoredFor (spans after : ℕ → SpanRecord) (s t : Span) : Type 0 where
  pub place : t.place ≡ s.place
  pub born : t.born ≡ s.born
  pub is : alone (after s.place) ≡ record_with t 0 0
  pub others : (u : ℕ) → u ≢ s.place → alone (after u) ≡ alone (spans u)

-- if the store has a span at a place, a page starts there, and the words have the record of a span
abbrev pub AreReadable : List ℕ → (ℕ → Type 0) → Type 0
AreReadable words has = (u : ℕ) → has u → (u % 16384 ≡ 0) × (x : SpanRecord) × IsRecordAt words (record_word u) x
