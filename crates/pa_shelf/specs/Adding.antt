-- Spans that start on the next free page.
use Rattle.std.specs.Prelude.{◌≡◌, ◌≢◌, ℕ, ◌+◌, nat_le, if◌then◌else◌, List, Option, Some, None, Contains}
use Rattle.pa_buckets.specs.Table.{pages_of}
use Rattle.pa_record.specs.declared.taken.SuperPage.{SuperPage}
use Rattle.pa_record.specs.Spans.{Span}
use Rattle.pa_record.specs.Root.{Root, Found}
use Rattle.pa_spans.specs.declared.span.Span.{Span as SpanRecord}
use Rattle.pa_records.specs.Words.{unused_span}
use Rattle.pa_records.specs.Records.{record_with}

-- where the new span starts, if there was room for it
abbrev pub found_start : Option Found → Option ℕ
found_start None = None
found_start (Some f) = Some f.span.place

-- the root with the new span, or as it was if there was no room for one
abbrev pub found_root : Option Found → Root → Root
found_root None r = r
found_root (Some f) r = f.root

-- the super page, if a span of the class has room in it from this page on
abbrev pub room_in : ℕ → ℕ → Option SuperPage → Option SuperPage
room_in class page None = None
room_in class page (Some a) = if nat_le (page + pages_of class) 127 then Some a else None

-- the record of a span of this class that isn't in use
abbrev pub record_of_class : ℕ → SpanRecord
record_of_class class = record unused_span { class = class }

-- The span t starts at the offset, and isn't in use: it has no slots. None of the spans ss is there.
pub record IsAddedAs (at class : ℕ) (ss : List Span) (t : Span) : Type 0 where
  pub here : t.place ≡ at
  pub is : record_with t 0 0 ≡ record_of_class class
  pub alone : (s : Span) → Contains ss s → (s.place ≢ at)
