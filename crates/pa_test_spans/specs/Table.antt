-- A store of spans in a list, for tests: the span at each number from 1 on.
use Rattle.std.specs.Prelude.{ℕ, ◌<◌, ◌≤◌, List, length, slice_index_or}
use Rattle.pa_buckets.specs.declared.spans.State.TheVariants as state
use Rattle.pa_spans.specs.declared.span.Span.{Span}
use Rattle.pa_spans.specs.Lists.{SpanListParts, Stand}

-- a span that isn't in use, of class 0
abbrev pub no_span : Span
no_span = record {
  class = 0;
  state = state.None;
  allocated = 0;
  provisioned = 0;
  committed = 0;
  made = 0;
  head = 0;
  previous = 0;
  next = 0;
  turn = 0;
}

-- the span at number u of the list, and one that isn't in use past the end
abbrev pub listed_spans : List Span → ℕ → Span
listed_spans spans u = slice_index_or spans u no_span

-- u is the number of a span in the list, from 1 on: the one at 0 isn't counted
abbrev pub has_number : List Span → ℕ → Type 0
has_number spans u = (0 < u) × (u < length spans)

-- what the tests keep from move to move, after this many moves: the lists are those of the spans, and at most 17 are empty
pub record IsTableKept (l : SpanListParts) (spans : List Span) (moves : ℕ) : Type 0 where
  pub stand : Stand l (listed_spans spans) (has_number spans)
  pub few : length l.ring ≤ 17
  pub turn : l.turn ≤ moves
