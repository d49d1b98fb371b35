use Rattle.std.proofs.Common.{◌≡◌, ℕ, ◌<◌}
use Rattle.pa_rules.specs.declared.verdict.Place.TheVariants as places
use Rattle.pa_rules.specs.Cells.{history_at}
use Rattle.pa_rules.specs.RecordDemands.{ContentsDemand}
use Rattle.pa_rules.specs.Sizes.{usable_of}
use Rattle.pa_audit_records.proofs.Walking.{RegsSoFar}
use Rattle.pa_audit_order.specs.Given.{MeetRegisters}
use Rattle.pa_audit_order.proofs.contents.contents_meet.Given as goal

abbrev pub invariant-loop-record : goal.invariant-loop-record
invariant-loop-record l = record {
  met : (version : ℕ) → MeetRegisters version (history_at l.cells) l.records
      → (j : ℕ) → j < l.record-index → ContentsDemand (usable_of version) (history_at l.cells) l.records (places.Record j);
  regs : (version : ℕ) → MeetRegisters version (history_at l.cells) l.records
      → RegsSoFar version (history_at l.cells) l.records l.registers l.record-index;
  at : l.at ≡ l.record-index;
}
