use Rattle.std.proofs.Common.{◌≡◌, ℕ, ◌<◌}
use Rattle.pa_rules.specs.declared.verdict.Place.TheVariants as places
use Rattle.pa_rules.specs.Roots.{journal_at}
use Rattle.pa_rules.specs.HeapDemands.{HoldersDemand}
use Rattle.pa_audit_holders.proofs.held.first_record.Given as goal

abbrev pub invariant-loop-record : goal.invariant-loop-record
invariant-loop-record l = record {
  at : l.at ≡ l.record-index;
  met : (j : ℕ) → j < l.at → HoldersDemand l.records (journal_at l.roots) (places.Record j);
}
