-- A span of a list by its index, if there is one; and the bytes of what a span keeps.
use Rattle.std.specs.Prelude.{ℕ, ◌*◌, List, Option, Some, None, slice_get}
use Rattle.pa_buckets.specs.Table.{slot_of}
use Rattle.pa_record.specs.Spans.{Span}
use Rattle.pa_record.specs.Census.{kept_of}

-- the span at this index of the list, or none if there is no index, or no span at it
abbrev pub span_at : List Span → Option ℕ → Option Span
span_at ss None = None
span_at ss (Some at) = slice_get ss at

-- the bytes of a span's slots that were made and aren't out
abbrev pub bytes_kept : Span → ℕ
bytes_kept s = slot_of s.class * kept_of s
