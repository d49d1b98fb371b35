use Rattle.std.proofs.Common.{◌≡◌}
use Rattle.pa_test_region.specs.CacheRows.{IsRowCached}
use Rattle.pa_test_region.proofs.cache.fill.Given as goal

abbrev pub invariant-loop-number : goal.invariant-loop-number
invariant-loop-number l = record {
  region : l.seat.region ≡ l.region;
  row : IsRowCached l.number l.seat.view l.cache;
}
