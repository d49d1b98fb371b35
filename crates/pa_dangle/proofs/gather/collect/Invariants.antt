use Rattle.std.proofs.Common.{◌≡◌, length}
use Rattle.pa_rules.specs.Cells.{history_at}
use Rattle.pa_dangle.specs.Collected.{AreCollected}
use Rattle.pa_dangle.specs.Ways.{AreWays}
use Rattle.pa_dangle.proofs.gather.collect.Given as goal

abbrev pub invariant-loop-record : goal.invariant-loop-record
invariant-loop-record l = record {
  pairs : AreCollected (history_at l.cells) l.records l.pairs.items l.record-index;
  ways : AreWays (history_at l.cells) l.records l.ways.items (length l.records);
  at : l.at ≡ l.record-index;
}
