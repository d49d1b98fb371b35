use Rattle.std.proofs.Common.{List, arith, sym, ◌∙◌, ap, subst}
use Rattle.pa_record.specs.declared.pool.PoolEntry.{PoolEntry}
use Rattle.pa_record.specs.declared.root.RootEntry.{RootEntry}
use Rattle.pa_rules.specs.declared.verdict.Clause.TheVariants as clauses
use Rattle.pa_rules.specs.declared.verdict.Place.TheVariants as places
use Rattle.pa_rules.specs.Legal.{phases_in}
use Rattle.pa_rules.specs.Roots.{journal_at}
use Rattle.pa_rules.specs.HeapDemands.{RootsDemand}
use Rattle.pa_audit_heap.specs.Censuses.{HaveAllCensuses}
use Rattle.pa_audit_heap.specs.Replayed.{DoAllFit}
use Rattle.pa_audit_heap.specs.Tells.{TellsEntry}
use Rattle.pa_audit.proofs.Granted.{of_threads, pool_fits, region_few}
use Rattle.pa_audit.proofs.heap.first_entry.Goals as goal

pub journals_meet-requires-clause-supers : goal.journals_meet-requires-clause-supers
journals_meet-requires-clause-supers c = region_few c.args.trace.now c.requires.limits

pub journals_meet-requires-clause-threads : goal.journals_meet-requires-clause-threads
journals_meet-requires-clause-threads c =
    of_threads c.args.trace.now c.args.run.now c.args.records.now c.requires.records c.requires.limits
    (c.requires.before clauses.Lines (omega arith))

pub journals_meet-requires-clause-pool : goal.journals_meet-requires-clause-pool
journals_meet-requires-clause-pool c =
    subst (λ (es : List PoolEntry). DoAllFit c.args.trace.now.region es) (sym c.pool-pools.ensures.pool)
    (pool_fits c.args.trace.now c.args.run.now (c.requires.before clauses.Pool (omega arith)))

pub returns-clause-entry : goal.returns-clause-entry
returns-clause-entry c =
    let t = c.args.trace.now in
    let ps = c.args.records.now in
    let o = c.in_ok-found.found.misfit in
    subst (λ (es : List PoolEntry). TellsEntry
    (λ p j. RootsDemand t.partitions ps es (journal_at c.args.run.now.roots.items) (places.Root p j)) o) c.pool-pools.ensures.pool
    (subst (λ (rs : List (List RootEntry)). TellsEntry (λ p j. RootsDemand t.partitions ps c.pool-pools.result.now (journal_at rs)
    (places.Root p j)) o) c.roots-roots.ensures.roots c.in_ok-found.ensures.misfit)

pub returns-clause-censuses : goal.returns-clause-censuses
returns-clause-censuses c = λ none.
    let t = c.args.trace.now in
    let ps = c.args.records.now in
    let all = c.in_ok-found.found.censuses.items in
    subst (λ n. HaveAllCensuses t.partitions n ps c.args.run.now.pool.items (journal_at c.args.run.now.roots.items) all)
    (c.phases_in.ensures.phases ∙ ap phases_in c.as_slice.ensures)
    (subst (λ (es : List PoolEntry). HaveAllCensuses t.partitions c.phases_in.result ps es (journal_at c.args.run.now.roots.items) all)
    c.pool-pools.ensures.pool
    (subst (λ (rs : List (List RootEntry)). HaveAllCensuses t.partitions c.phases_in.result ps c.pool-pools.result.now (journal_at rs)
    all) c.roots-roots.ensures.roots (c.in_ok-found.ensures.censuses none)))
