use Rattle.std.proofs.Common.{◌≡◌, ◌-◌}
use Rattle.pa_test_region.specs.ChainRows.{IsRowChained}
use Rattle.pa_test_region.proofs.link.chain_row.Given as goal

abbrev pub invariant-loop-done : goal.invariant-loop-done
invariant-loop-done l = record {
  region : l.seat.region ≡ l.region;
  row : IsRowChained l.born l.cut (l.to - l.done) l.seat.view l.chain;
}
