use Rattle.pa_test_region.proofs.CacheRows.{row_none}
use Rattle.pa_test_region.proofs.cache.fill.Goals as goal

pub loop-number-init : goal.loop-number-init
loop-number-init c = record {
  region = c.requires.region;
  row = row_none c.args.seat.now.view c.args.cache.now c.requires.row c.requires.has c.requires.empty;
}
