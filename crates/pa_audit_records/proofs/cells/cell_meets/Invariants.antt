use Rattle.std.proofs.Common.{◌≡◌}
use Rattle.pa_audit_records.specs.ByKeys.{value_at}
use Rattle.pa_rules.specs.Cells.{history_at}
use Rattle.pa_audit_records.proofs.Exchanging.{CellSoFar}
use Rattle.pa_audit_records.proofs.cells.cell_meets.Given as goal

abbrev pub invariant-loop-entry : goal.invariant-loop-entry
invariant-loop-entry l = record {
  at : l.at ≡ l.entry-index;
  cell : CellSoFar (history_at l.cells) l.records (value_at l.known) (value_at l.last) l.phase l.given l.cell l.entry-index;
}
