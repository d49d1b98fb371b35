use Rattle.std.proofs.Common.{◌≡◌, ℕ, ◌<◌}
use Rattle.pa_audit_records.specs.ByKeys.{value_at}
use Rattle.pa_rules.specs.declared.verdict.Place.TheVariants as places
use Rattle.pa_rules.specs.Cells.{history_at}
use Rattle.pa_rules.specs.RecordDemands.{CellsDemand}
use Rattle.pa_audit_records.specs.Exchanges.{AreLinesKnown}
use Rattle.pa_audit_records.proofs.cells.exchanges_meet.Given as goal

abbrev pub invariant-loop-history : goal.invariant-loop-history
invariant-loop-history l = record {
  cell : l.cell ≡ l._history-index;
  met : (k j : ℕ) → k < l.cell → CellsDemand (history_at l.cells) l.records (places.Cell k j);
  lines : AreLinesKnown (history_at l.cells) (value_at l.known) l.cell 0;
}
