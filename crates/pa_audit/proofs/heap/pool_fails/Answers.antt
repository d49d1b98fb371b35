use Rattle.std.proofs.Common.{◌≡◌, ℕ, List, Option, arith, sym, subst}
use Rattle.std.specs.Prelude.{IfSome}
use Rattle.std.specs.Option.{option_map}
use Rattle.pa_trace.specs.declared.script.Trace.{Trace}
use Rattle.pa_record.specs.declared.pool.PoolEntry.{PoolEntry}
use Rattle.pa_record.specs.declared.root.RootEntry.{RootEntry}
use Rattle.pa_record.specs.declared.run.Run.{Run}
use Rattle.pa_rules.specs.declared.played.Played.{Played}
use Rattle.pa_rules.specs.declared.verdict.Clause.TheVariants as clauses
use Rattle.pa_rules.specs.declared.verdict.Place.TheVariants as places
use Rattle.pa_rules.specs.Places.{line_at}
use Rattle.pa_rules.specs.Roots.{journal_at}
use Rattle.pa_rules.specs.Told.{records_of, told_by}
use Rattle.pa_rules.specs.HeapDemands.{PoolDemand}
use Rattle.pa_rules.specs.Tells.{TellsFirst}
use Rattle.pa_rules.specs.Verdicts.{Demand}
use Rattle.pa_audit_report.specs.Given.{AreRecordsOf}
use Rattle.pa_audit.specs.Lined.{TellsLine}
use Rattle.pa_audit.specs.Placed.{IsThere, TellsPlace}
use Rattle.pa_audit.proofs.Granted.{of_threads, pool_rest, region_few}
use Rattle.pa_audit.proofs.Placing.{place_there, place_told}
use Rattle.pa_audit.proofs.Telling.{pool_told}
use Rattle.pa_audit.proofs.heap.pool_fails.Goals as goal

abbrev Entries : ℕ → List Played → List PoolEntry → List (List RootEntry) → Option ℕ → Type 0
Entries supers ps pools roots o = TellsFirst (λ j. PoolDemand supers ps pools (journal_at roots) (places.Pool j)) o

-- what is reported of these records, entries and journals is reported of the run's places
places_of : (t : Trace) (r : Run) (ps : List Played) (pools : List PoolEntry) (roots : List (List RootEntry)) (o : Option ℕ) →
    AreRecordsOf t r ps → pools ≡ r.pool.items → roots ≡ r.roots.items →
    Entries t.region ps pools roots o → TellsPlace (Demand clauses.Pool t (told_by r)) (option_map places.Pool o)
places_of t r ps pools roots o records same is tells =
    pool_told t.region (records_of t (told_by r)) r.pool.items (journal_at r.roots.items) o
    (subst (λ qs. Entries t.region qs r.pool.items r.roots.items o) records
    (subst (λ es. Entries t.region ps es r.roots.items o) same (subst (λ rs. Entries t.region ps pools rs o) is tells)))

pub pool_meets-requires-clause-supers : goal.pool_meets-requires-clause-supers
pool_meets-requires-clause-supers c = region_few c.args.trace.now c.requires.limits

pub pool_meets-requires-clause-threads : goal.pool_meets-requires-clause-threads
pool_meets-requires-clause-threads c =
    of_threads c.args.trace.now c.args.run.now c.args.records.now c.requires.records c.requires.limits
    (c.requires.before clauses.Lines (omega arith))

pub line_where-requires-clause-there : goal.line_where-requires-clause-there
line_where-requires-clause-there c =
    let t = c.args.trace.now in
    let r = c.args.run.now in
    let o = c.in_ok-at.at in
    subst (λ p. IfSome p (IsThere r)) (sym c.pool_place.ensures)
    (place_there clauses.Pool t r (option_map places.Pool o) (pool_rest t r)
    (places_of t r c.args.records.now c.pool-pools.result.now c.roots.result.now o c.requires.records c.pool-pools.ensures.pool
    c.roots.ensures.roots c.in_ok-at.ensures))

pub returns : goal.returns
returns c =
    let t = c.args.trace.now in
    let r = c.args.run.now in
    let o = c.in_ok-at.at in
    subst (λ p. TellsLine clauses.Pool t r p) (sym c.line_where.ensures)
    (subst (λ p. TellsLine clauses.Pool t r (option_map (line_at r) p)) (sym c.pool_place.ensures)
    (place_told clauses.Pool t r (option_map places.Pool o) (pool_rest t r)
    (places_of t r c.args.records.now c.pool-pools.result.now c.roots.result.now o c.requires.records c.pool-pools.ensures.pool
    c.roots.ensures.roots c.in_ok-at.ensures)))
