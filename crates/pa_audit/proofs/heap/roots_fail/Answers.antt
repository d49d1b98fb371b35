use Rattle.std.proofs.Common.{List, sym, subst}
use Rattle.pa_record.specs.RunText.{journal_of}
use Rattle.pa_rules.specs.declared.played.Played.{Played}
use Rattle.pa_rules.specs.declared.verdict.Clause.TheVariants as clauses
use Rattle.pa_rules.specs.HeapDemands.{RootsDemand}
use Rattle.pa_audit.specs.Lined.{TellsLine}
use Rattle.pa_audit.specs.Placed.{TellsPlace}
use Rattle.pa_audit.proofs.Granted.{roots_rest}
use Rattle.pa_audit.proofs.Placing.{place_there, place_told}
use Rattle.pa_audit.proofs.heap.roots_fail.Goals as goal

pub line_where-requires-clause-there : goal.line_where-requires-clause-there
line_where-requires-clause-there c =
    let t = c.args.trace.now in
    let r = c.args.run.now in
    place_there clauses.Roots t r c.in_ok-place.place (roots_rest t r)
    (subst (λ (ps : List Played). TellsPlace (RootsDemand t.partitions ps r.pool.items (journal_of r)) c.in_ok-place.place)
    c.requires.records c.in_ok-place.ensures.place)

pub returns-clause-line : goal.returns-clause-line
returns-clause-line c =
    let t = c.args.trace.now in
    let r = c.args.run.now in
    subst (λ o. TellsLine clauses.Roots t r o) (sym c.line_where.ensures)
    (place_told clauses.Roots t r c.in_ok-place.place (roots_rest t r)
    (subst (λ (ps : List Played). TellsPlace (RootsDemand t.partitions ps r.pool.items (journal_of r)) c.in_ok-place.place)
    c.requires.records c.in_ok-place.ensures.place))
