use Rattle.std.proofs.Common.{◌≡◌, ◌+◌, ◌≤◌, All, vec_len}
use Rattle.std.specs.Vec.{vec_capacity}
use Rattle.pa_record.specs.Spans.{Span}
use Rattle.pa_place.specs.Served.{blank_span}
use Rattle.pa_place.proofs.blanks.with_blanks.Given as goal

abbrev pub invariant-loop-blank : goal.invariant-loop-blank
invariant-loop-blank l = record {
  blank : All (λ (s : Span). s ≡ blank_span l.class) l.list.items;
  many : vec_len l.list ≡ vec_len l.initial.list + l._blank;
  room : vec_len l.initial.list + l.missing ≤ vec_capacity l.list;
}
