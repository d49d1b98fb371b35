use Rattle.std.proofs.Common.{◌≡◌}
use Rattle.std.specs.Ordering.{nat_cmp}
use Rattle.std.specs.BTreeMap.{get}
use Rattle.pa_rules.specs.Cells.{history_at}
use Rattle.pa_dangle.specs.Ways.{AreLastPuts, AreWays}
use Rattle.pa_dangle.proofs.ways.ways_of.Given as goal

abbrev pub invariant-loop-record : goal.invariant-loop-record
invariant-loop-record l = record {
  ways : AreWays (history_at l.cells) l.records l.ways.items l.record-index;
  last : AreLastPuts (history_at l.cells) l.records (get nat_cmp l.last) l.record-index;
  at : l.at ≡ l.record-index;
}
