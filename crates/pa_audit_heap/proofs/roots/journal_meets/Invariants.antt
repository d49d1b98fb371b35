use Rattle.std.proofs.Common.{ℕ, ◌<◌}
use Rattle.pa_rules.specs.declared.verdict.Place.TheVariants as places
use Rattle.pa_rules.specs.HeapDemands.{RootsDemand}
use Rattle.pa_rules.specs.Roots.{journal_at}
use Rattle.pa_audit_heap.specs.Walking.{IsWalked}
use Rattle.pa_audit_heap.proofs.roots.journal_meets.Given as goal

abbrev pub invariant-loop-at : goal.invariant-loop-at
invariant-loop-at l = record {
  walked : IsWalked l.supers l.phases l.records l.pools l.journal l.at l.walk;
  met : (j : ℕ) → j < l.at → RootsDemand l.partitions l.records l.pools (journal_at l.roots) (places.Root l.partition j);
}
