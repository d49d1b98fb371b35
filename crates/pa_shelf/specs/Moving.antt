-- A span that changes, and enters a state.
use Rattle.std.specs.Prelude.{◌≡◌, ℕ, ◌+◌, ◌-◌, ◌==◌, if◌then◌else◌, Some, None, length}
use Rattle.pa_slot.specs.declared.title.Title.{Title}
use Rattle.pa_buckets.specs.declared.spans.State.{State}
use Rattle.pa_buckets.specs.declared.spans.State.TheVariants as state
use Rattle.pa_record.specs.Spans.{Span, name_of}
use Rattle.pa_region.specs.declared.view.View.{View}
use Rattle.pa_spans.specs.declared.span.Span.{Span as SpanRecord}
use Rattle.pa_records.specs.Records.{record_with}
use Rattle.pa_records.specs.Stored.{alone}
use Rattle.pa_link.specs.declared.chain.ChainParts.{ChainParts}

-- the record x is that of t, but for its neighbours, and t is in the place of s, which starts there
pub record IsRecordFor (at : ℕ) (x : SpanRecord) (s t : Span) : Type 0 where
  pub here : s.place ≡ at
  pub place : t.place ≡ s.place
  pub born : t.born ≡ s.born
  pub is : alone x ≡ record_with t 0 0

-- the record of a span without its list and its pages
abbrev pub without_pages_of : SpanRecord → SpanRecord
without_pages_of x = record x { provisioned = 0; committed = 0; head = 0 }

-- the chain that a span's record has: its slots have as many bytes as this one, and are of the same super page
abbrev pub parts_of_record : SpanRecord → Title → ChainParts
parts_of_record x t = record {
  slot_len = t.len;
  head = if x.provisioned - x.allocated == 0 then None else Some (record { start = x.head; born = t.born });
  len = x.provisioned - x.allocated;
}

-- with the slot at the front
abbrev pub pushed_parts : Title → ChainParts → ChainParts
pushed_parts t c = record { slot_len = c.slot_len; head = Some (name_of t); len = c.len + 1 }

-- the record of a span after a slot came back that starts there
abbrev pub with_front_of : ℕ → SpanRecord → SpanRecord
with_front_of start x = record x { allocated = x.allocated - 1; head = start }

-- the state of a span with this many slots out, once one came back
abbrev pub state_with : ℕ → State
state_with allocated = if allocated == 0 then state.Empty else state.Active

-- of a seat's view only words are others
pub record Rewritten (v w : View) : Type 0 where
  pub rest : w ≡ record v { words = w.words; since = record v.since { stored = w.since.stored } }
  pub long : length w.words ≡ length v.words
