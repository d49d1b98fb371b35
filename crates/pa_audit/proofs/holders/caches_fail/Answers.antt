use Rattle.std.proofs.Common.{◌≡◌, ℕ, ◌+◌, List, length, Option, Some, None, refl, sym, ◌∙◌, ap, arith, subst}
use Rattle.std.specs.Option.{option_map}
use Rattle.pa_audit_records.specs.ByKeys.{value_at}
use Rattle.pa_record.specs.declared.root.RootEntry.{RootEntry}
use Rattle.pa_lists.proofs.Members.{not_some}
use Rattle.pa_rules.specs.declared.played.Played.{Played}
use Rattle.pa_rules.specs.declared.verdict.Clause.TheVariants as clauses
use Rattle.pa_rules.specs.declared.verdict.Place.TheVariants as places
use Rattle.pa_rules.specs.Roots.{journal_at}
use Rattle.pa_rules.specs.HeapDemands.{CachesDemand}
use Rattle.pa_rules.specs.Tells.{TellsFirst}
use Rattle.pa_audit_records.specs.Cuts.{AreRecordCuts}
use Rattle.pa_audit_holders.specs.Books.{RunBooks}
use Rattle.pa_audit_holders.specs.Cached.{HaveCached}
use Rattle.pa_audit_holders.specs.Homes.{HasOneHome, KnowsHomes}
use Rattle.pa_audit.specs.Lined.{TellsLine}
use Rattle.pa_audit.proofs.Granted.{all_of_threads, homes_held}
use Rattle.pa_audit.proofs.Lining.{first_there, line_told}
use Rattle.pa_audit.proofs.holders.caches_fail.Goals as goal

pub of-requires-clause-within : goal.of-requires-clause-within
of-requires-clause-within c =
    let can = c.requires.can in
    all_of_threads c.args.trace.now c.args.run.now c.args.records.now can.records can.limits (can.before clauses.Lines (omega arith))

pub of-requires-clause-kinds : goal.of-requires-clause-kinds
of-requires-clause-kinds c s =
    let before = c.requires.can.before in
    subst (λ (rs : List (List RootEntry)). HasOneHome c.args.trace.now.version (journal_at rs) s) (sym c.roots-2.ensures.roots)
    (homes_held c.args.trace.now c.args.run.now (before clauses.Lines (omega arith)) (before clauses.Pool (omega arith))
    (before clauses.Roots (omega arith)) s)

pub caches_meet-requires-clause-ends : goal.caches_meet-requires-clause-ends
caches_meet-requires-clause-ends c =
    let records = ap (λ (b : RunBooks). b.records) c.in_ok-books.ensures in
    subst (λ (ps : List Played). AreRecordCuts ps c.as_slice.result.now) (sym records)
    (subst (λ (es : List ℕ). AreRecordCuts c.args.records.now es) (sym c.as_slice.ensures.value) c.requires.ends.ends)

pub record_line-requires : goal.record_line-requires
record_line-requires c =
    let t = c.args.trace.now in
    let ps = c.args.records.now in
    let few = c.requires.can.few in
    let at = c.in_ok-found.found.misfit in
    let misfit = subst (λ (b : RunBooks). TellsFirst (λ i. CachesDemand b.partitions (journal_at b.roots) b.records (places.Record i)) at)
    c.in_ok-books.ensures c.in_ok-found.ensures.misfit in
    first_there ps 4294967294 (λ i. CachesDemand t.partitions (journal_at c.roots-2.result.now) ps (places.Record i)) at
    (omega (arith, few)) (λ i none x there. absurd (none x there)) misfit

pub returns-clause-line : goal.returns-clause-line
returns-clause-line c =
    let t = c.args.trace.now in
    let r = c.args.run.now in
    let at = c.in_ok-found.found.misfit in
    let misfit = subst (λ (b : RunBooks). TellsFirst (λ i. CachesDemand b.partitions (journal_at b.roots) b.records (places.Record i)) at)
    c.in_ok-books.ensures c.in_ok-found.ensures.misfit in
    subst (λ o. TellsLine clauses.Caches t r o) (sym c.record_line.ensures)
    (line_told clauses.Caches t r at tt
    (subst (λ (ps : List Played). TellsFirst (λ i. CachesDemand t.partitions (journal_at r.roots.items) ps (places.Record i)) at)
    c.requires.can.records
    (subst (λ (rs : List (List RootEntry)). TellsFirst
    (λ i. CachesDemand t.partitions (journal_at rs) c.args.records.now (places.Record i)) at)
    c.roots-2.ensures.roots misfit)))

-- if no line is reported there was no misfit
no_misfit : (o : Option ℕ) → option_map (λ i. 2 + i) o ≡ None → o ≡ None
no_misfit None e = refl
no_misfit (Some i) e = absurd (not_some (2 + i) (sym e))

pub returns-clause-lists : goal.returns-clause-lists
returns-clause-lists c = λ none.
    let t = c.args.trace.now in
    let ps = c.args.records.now in
    let found = c.in_ok-found.found in
    let no = no_misfit c.in_ok-found.found.misfit (sym c.record_line.ensures ∙ none) in
    let cached = subst (λ (b : RunBooks). HaveCached b.partitions t.threads (journal_at b.roots) b.records found.cached.items)
    c.in_ok-books.ensures (c.in_ok-found.ensures.cached no) in
    record {
      homes = subst (λ (rs : List (List RootEntry)). KnowsHomes (journal_at rs) (value_at c.in_ok-homes.homes)) c.roots.ensures.roots
          c.in_ok-homes.ensures;
      cached = subst (λ (rs : List (List RootEntry)). HaveCached t.partitions t.threads (journal_at rs) ps found.cached.items)
          c.roots-2.ensures.roots cached;
      listed = c.in_ok-found.ensures.many no ∙ ap length c.as_slice.ensures.value ∙ c.requires.ends.phases;
    }
