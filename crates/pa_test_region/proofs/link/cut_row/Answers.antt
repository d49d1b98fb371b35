use Rattle.pa_test_region.proofs.ChainRows.{row_first}
use Rattle.pa_test_region.proofs.link.cut_row.Goals as goal

pub loop-done-init : goal.loop-done-init
loop-done-init c = record {
  region = c.requires.region;
  row = row_first c.a_new_region_can_be_cut.ensures c.args.born c.args.seat.now.view c.requires.view;
}
