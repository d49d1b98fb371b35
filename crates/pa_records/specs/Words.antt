-- The record of a slot span in four words, and the span that four words have.
use Rattle.std.specs.Prelude.{◌≡◌, ℕ, ◌+◌, ◌*◌, ◌/◌, ◌%◌, ◌^◌, ◌<◌, ◌==◌, if◌then◌else◌, List, slice_index, slice_set}
use Rattle.pa_layout.specs.Pages.{super_page_at, page_at, record_place}
use Rattle.pa_buckets.specs.declared.spans.State.{State}
use Rattle.pa_buckets.specs.declared.spans.State.TheVariants as state
use Rattle.pa_buckets.specs.Limits.{class_count}
use Rattle.pa_spans.specs.declared.span.Span.{Span}

-- the byte offset at which the record of the page at this offset begins
abbrev pub record_byte : ℕ → ℕ
record_byte place = record_place (super_page_at place) (page_at place)

-- the word of the region with which the record of the page at this offset begins: its byte offset divided by 8
abbrev pub record_word : ℕ → ℕ
record_word place = record_byte place / 8

-- the number that a record has for a state
abbrev pub state_number : State → ℕ
state_number state.None = 0
state_number state.Active = 1
state_number state.Empty = 2
state_number state.Decommitted = 3
state_number state.Full = 4

-- The state with this number. Each number above 3 is that of Full.
abbrev pub numbered_state : ℕ → State
numbered_state n =
    if n == 0 then state.None else (if
    n == 1 then state.Active else (if n == 2 then state.Empty else (if n == 3 then state.Decommitted else state.Full)))

-- word 0 of a record: the class in bits 0 to 7, the number of the state in bits 8 to 15, how many slots are allocated in bits 16 to
-- 31, how many are provisioned in bits 32 to 47, and how many pages are committed in bits 48 to 63
abbrev pub counts_of : Span → ℕ
counts_of s = s.class + 256 * state_number s.state + 65536 * s.allocated + 4294967296 * s.provisioned + 281474976710656 * s.committed

-- word 1 of a record: where the list's front slot starts in bits 0 to 31, how many slots were made in bits 32 to 63
abbrev pub slots_of_record : Span → ℕ
slots_of_record s = s.head + 4294967296 * s.made

-- word 2 of a record: where the previous span starts in bits 0 to 31, where the next one starts in bits 32 to 63
abbrev pub neighbours_of : Span → ℕ
neighbours_of s = s.previous + 4294967296 * s.next

-- each field of the span has the bits that a record has for it
pub record FitsRecord (s : Span) : Type 0 where
  pub class : s.class < class_count
  pub allocated : s.allocated < 2 ^ 16
  pub provisioned : s.provisioned < 2 ^ 16
  pub committed : s.committed < 2 ^ 16
  pub made : s.made < 2 ^ 32
  pub head : s.head < 2 ^ 32
  pub previous : s.previous < 2 ^ 32
  pub next : s.next < 2 ^ 32
  pub turn : s.turn < 2 ^ 64

-- the four words are the record of the span
pub record AreRecordOf (s : Span) (counts slots neighbours turn : ℕ) : Type 0 where
  pub fits : FitsRecord s
  pub counts_are : counts ≡ counts_of s
  pub slots_are : slots ≡ slots_of_record s
  pub neighbours_are : neighbours ≡ neighbours_of s
  pub turn_is : turn ≡ s.turn

-- the words have the record of the span from word q on
abbrev pub IsRecordAt : List ℕ → ℕ → Span → Type 0
IsRecordAt words q s = AreRecordOf s (slice_index words q) (slice_index words (q + 1)) (slice_index words (q + 2)) (slice_index words
    (q + 3))

-- the words with the record of the span from word q on
abbrev pub with_record : List ℕ → ℕ → Span → List ℕ
with_record words q s =
    slice_set (slice_set (slice_set (slice_set words q (counts_of s)) (q + 1) (slots_of_record s)) (q + 2) (neighbours_of s))
    (q + 3) s.turn

-- the span whose record the words have from word q on
abbrev pub decoded_span : List ℕ → ℕ → Span
decoded_span words q = record {
  class = slice_index words q % 256;
  state = numbered_state (slice_index words q / 256 % 256);
  allocated = slice_index words q / 65536 % 65536;
  provisioned = slice_index words q / 4294967296 % 65536;
  committed = slice_index words q / 281474976710656;
  made = slice_index words (q + 1) / 4294967296;
  head = slice_index words (q + 1) % 4294967296;
  previous = slice_index words (q + 2) % 4294967296;
  next = slice_index words (q + 2) / 4294967296;
  turn = slice_index words (q + 3);
}

-- a span that isn't in use, of class 0
abbrev pub unused_span : Span
unused_span = record {
  class = 0;
  state = state.None;
  allocated = 0;
  provisioned = 0;
  committed = 0;
  made = 0;
  head = 0;
  previous = 0;
  next = 0;
  turn = 0;
}

-- the span at each offset, as the words have it: that of the record of the page which starts there
abbrev pub spans_in : List ℕ → ℕ → Span
spans_in words place = if place % 16384 == 0 then decoded_span words (record_word place) else unused_span
