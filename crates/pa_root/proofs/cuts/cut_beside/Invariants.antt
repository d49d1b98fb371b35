use Rattle.std.proofs.Common.{◌≡◌}
use Rattle.pa_root.specs.Filling.{after_cuts}
use Rattle.pa_root.specs.Cutting.{title_beside, titles_beside, NoneSeen}
use Rattle.pa_root.proofs.cuts.cut_beside.Given as goal

-- those before this one are cut
abbrev pub invariant-loop-done : goal.invariant-loop-done
invariant-loop-done l = record {
  region : l.seat.region ≡ l.initial.seat.region;
  next : l.next ≡ title_beside l.fn.first l.done;
  view : l.seat.view ≡ after_cuts (titles_beside l.fn.first 0 l.done) l.initial.seat.view;
  new : NoneSeen l.initial.seat.view (titles_beside l.fn.first 0 l.done);
}
