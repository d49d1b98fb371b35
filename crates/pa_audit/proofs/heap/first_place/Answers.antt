use Rattle.std.proofs.Common.{ℕ, List, Option, Some, None, subst}
use Rattle.pa_slot.proofs.Outcomes.{any_err}
use Rattle.pa_record.specs.declared.pool.PoolEntry.{PoolEntry}
use Rattle.pa_record.specs.declared.root.RootEntry.{RootEntry}
use Rattle.pa_rules.specs.declared.played.Played.{Played}
use Rattle.pa_rules.specs.declared.verdict.Place.TheVariants as places
use Rattle.pa_rules.specs.Roots.{journal_at}
use Rattle.pa_rules.specs.HeapDemands.{RootsDemand}
use Rattle.pa_rules.specs.Tells.{TellsFirst}
use Rattle.pa_audit_heap.specs.Tells.{TellsEntry}
use Rattle.pa_audit.proofs.Telling.{entries_all, entry_told, refusal_told}
use Rattle.pa_audit.proofs.heap.first_place.Goals as goal

abbrev Refusals : ℕ → List Played → List PoolEntry → List (List RootEntry) → Option ℕ → Type 0
Refusals partitions ps pools roots o = TellsFirst (λ i. RootsDemand partitions ps pools (journal_at roots) (places.Record i)) o

abbrev Entries : ℕ → List Played → List PoolEntry → List (List RootEntry) → Option (ℕ × ℕ) → Type 0
Entries partitions ps pools roots o = TellsEntry (λ p j. RootsDemand partitions ps pools (journal_at roots) (places.Root p j)) o

pub returns-in-Some-clause-place : goal.returns-in-Some-clause-place
returns-in-Some-clause-place c =
    let t = c.args.trace.now in
    let r = c.args.run.now in
    refusal_told t.partitions c.args.records.now r.pool.items (journal_at r.roots.items) c.in-Some.at
    (subst (λ rs. Refusals t.partitions c.args.records.now r.pool.items rs (Some c.in-Some.at)) c.roots.ensures.roots
    (c.in-Some.ensures t.partitions r.pool.items))

pub returns-in-Some-first-clause-place : goal.returns-in-Some-first-clause-place
returns-in-Some-first-clause-place c =
    let t = c.args.trace.now in
    let r = c.args.run.now in
    entry_told t.partitions c.args.records.now r.pool.items (journal_at r.roots.items) c.in-Some-first.partition c.in-Some-first.at
    (subst (λ rs. Refusals t.partitions c.args.records.now r.pool.items rs None) c.roots.ensures.roots
    (c.in-None.ensures t.partitions r.pool.items))
    (subst (Entries t.partitions c.args.records.now r.pool.items r.roots.items) c.in-Some-first.is c.in_ok-first-in-None.ensures.entry)

pub returns-in-None-first-clause-place : goal.returns-in-None-first-clause-place
returns-in-None-first-clause-place c =
    let t = c.args.trace.now in
    let r = c.args.run.now in
    entries_all t.partitions c.args.records.now r.pool.items (journal_at r.roots.items)
    (subst (λ rs. Refusals t.partitions c.args.records.now r.pool.items rs None) c.roots.ensures.roots
    (c.in-None.ensures t.partitions r.pool.items))
    (subst (Entries t.partitions c.args.records.now r.pool.items r.roots.items) c.in-None-first.is c.in_ok-first-in-None.ensures.entry)

pub returns-in_err-first-in-None-clause-asks : goal.returns-in_err-first-in-None-clause-asks
returns-in_err-first-in-None-clause-asks c =
    let t = c.args.trace.now in
    let r = c.args.run.now in
    any_err c.from_residual.result _
    (subst (λ rs. Refusals t.partitions c.args.records.now r.pool.items rs None) c.roots.ensures.roots
    (c.in-None.ensures t.partitions r.pool.items))
