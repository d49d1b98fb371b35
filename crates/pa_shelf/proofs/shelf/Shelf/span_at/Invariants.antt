use Rattle.std.proofs.Common.{◌≡◌, ℕ, ◌+◌, ◌*◌, ◌/◌, ◌≤◌}
use Rattle.pa_record.specs.Spans.{Span as RootSpan}
use Rattle.pa_record.specs.Root.{Root}
use Rattle.pa_shelf.specs.Shelves.{IsBackAt}
use Rattle.pa_shelf.proofs.shelf.Shelf.span_at.Given as goal

-- this many pages back from the slot's own, and not before the first one of its span
abbrev pub invariant-loop-back : goal.invariant-loop-back
invariant-loop-back l = record {
  seat : l.own ≡ l.initial.own;
  page : l.at + 16384 * l.back ≡ l.fn.title.start / 16384 * 16384;
  after : (r : Root) (s : RootSpan) (n : ℕ) → IsBackAt l.initial.own.view l.self s.place l.fn.title r s n → s.place ≤ l.at;
}
