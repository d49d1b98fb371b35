use Rattle.std.proofs.Common.{◌≡◌, ℕ, length, subst, arith, inl, inr}
use Rattle.std.proofs.lemmas.Bool.{cases_lt}
use Rattle.pa_rules.specs.declared.verdict.Place.TheVariants as places
use Rattle.pa_rules.specs.HeapDemands.{RootsDemand}
use Rattle.pa_rules.specs.Roots.{journal_at}
use Rattle.pa_audit_records.proofs.Cutting.{each_next, long_next}
use Rattle.pa_audit_heap.specs.Censuses.{HaveCensuses}
use Rattle.pa_audit_heap.specs.Found.{TellsJournal}
use Rattle.pa_audit_heap.proofs.Journaling.{first_is, partition_more, none_behind}
use Rattle.pa_audit_heap.proofs.roots.journals_meet.Goals as goal

pub returns-in-Misfit-clause-misfit : goal.returns-in-Misfit-clause-misfit
returns-in-Misfit-clause-misfit c =
    let ps = c.args.records.now in
    let pools = c.args.pools.now in
    let roots = journal_at c.args.roots.now in
    let l = c.loop-partition in
    let told = subst (TellsJournal c.args.partitions c.args.phases ps pools roots l.partition) c.in-Misfit.is c.in_ok-found.ensures in
    first_is (λ (p j : ℕ). RootsDemand c.args.partitions ps pools roots (places.Root p j)) l.partition c.in-Misfit.at l.invariant.met told

pub loop-partition-preserved : goal.loop-partition-preserved
loop-partition-preserved c =
    let ps = c.args.records.now in
    let pools = c.args.pools.now in
    let roots = journal_at c.args.roots.now in
    let l = c.loop-partition in
    let told = subst (TellsJournal c.args.partitions c.args.phases ps pools roots l.partition) c.in-Meets.is c.in_ok-found.ensures in
    record {
      many = long_next l.censuses.items c.push.new.self.items _ l.partition c.in_ok-push-in-Meets.ensures.items l.invariant.many;
      each = each_next (λ p censuses. HaveCensuses ps pools roots p censuses × (length censuses ≡ c.args.phases)) l.censuses.items
          c.push.new.self.items _ l.partition c.in_ok-push-in-Meets.ensures.items l.invariant.many l.invariant.each (told.1, told.2);
      met = partition_more (λ (p j : ℕ). RootsDemand c.args.partitions ps pools roots (places.Root p j)) l.partition l.invariant.met told.0;
    }

pub returns-clause-misfit : goal.returns-clause-misfit
returns-clause-misfit c =
    let l = c.loop-partition in
    let past = c.loop-partition-test.false in
    let end = c.max-partition-end.ensures in
    λ p j. elim (cases_lt p l.partition) [
      | inl less ↦ l.invariant.met p j less
      | inr more ↦ none_behind c.args.partitions c.args.records.now c.args.pools.now c.args.roots.now p j (omega (arith, more, past, end))
    ]
