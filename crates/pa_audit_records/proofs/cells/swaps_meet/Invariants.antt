use Rattle.std.proofs.Common.{◌≡◌, ℕ, ◌<◌}
use Rattle.pa_rules.specs.declared.verdict.Place.TheVariants as places
use Rattle.pa_rules.specs.Cells.{history_at}
use Rattle.pa_rules.specs.RecordDemands.{CellsDemand}
use Rattle.pa_audit_records.proofs.cells.swaps_meet.Given as goal

abbrev pub invariant-loop-record : goal.invariant-loop-record
invariant-loop-record l = record {
  met : (j : ℕ) → j < l.record-index → CellsDemand (history_at l.cells) l.records (places.Record j);
  at : l.at ≡ l.record-index;
}
