use Rattle.std.proofs.Common.{◌≡◌, ℕ, ◌<◌, length}
use Rattle.pa_rules.specs.declared.verdict.Place.TheVariants as places
use Rattle.pa_rules.specs.HeapDemands.{RootsDemand}
use Rattle.pa_rules.specs.Roots.{journal_at}
use Rattle.pa_audit_records.specs.Cuts.{HasEach}
use Rattle.pa_audit_heap.specs.Censuses.{HaveCensuses}
use Rattle.pa_audit_heap.proofs.roots.journals_meet.Given as goal

abbrev pub invariant-loop-partition : goal.invariant-loop-partition
invariant-loop-partition l = record {
  many : length l.censuses.items ≡ l.partition;
  each : HasEach (λ p censuses. HaveCensuses l.records l.pools (journal_at l.roots) p censuses × (length censuses ≡ l.phases))
      l.censuses.items;
  met : (p j : ℕ) → p < l.partition → RootsDemand l.partitions l.records l.pools (journal_at l.roots) (places.Root p j);
}
