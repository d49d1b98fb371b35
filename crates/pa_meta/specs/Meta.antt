-- What a seat needs for the record of a slot span, and its view after the record was written.
use Rattle.std.specs.Prelude.{ℕ, ◌+◌, ◌<◌, ◌≤◌, true, slice_set}
use Rattle.pa_slot.specs.Holdings.{RawByte}
use Rattle.pa_region.specs.declared.view.View.{View}
use Rattle.pa_region.specs.Views.{held_of_view}
use Rattle.pa_spans.specs.declared.span.Span.{Span}
use Rattle.pa_records.specs.Words.{record_byte, record_word, with_record}

-- the view holds the 32 bytes of the record of the page at this offset as raw
abbrev pub HasRawRecord : View → ℕ → Type 0
HasRawRecord v place = (b : ℕ) → record_byte place ≤ b → b < record_byte place + 32 → 0 < held_of_view v (RawByte b)

-- the view after a store of one word
abbrev pub with_word : ℕ → ℕ → View → View
with_word q value v = record v { words = slice_set v.words q value; since = record v.since { stored = true } }

-- the view after the four words of this span's record were stored for the page at this offset
abbrev pub after_record : ℕ → Span → View → View
after_record place s v = record v { words = with_record v.words (record_word place) s; since = record v.since { stored = true } }
