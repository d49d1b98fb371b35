use Rattle.std.proofs.Common.{◌≡◌}
use Rattle.pa_test_region.specs.ChainRows.{IsRowOf}
use Rattle.pa_test_region.proofs.link.cut_row.Given as goal

abbrev pub invariant-loop-done : goal.invariant-loop-done
invariant-loop-done l = record {
  region : l.seat.region ≡ l.region;
  row : IsRowOf l.born l.done l.seat.view;
}
