use Rattle.std.proofs.Common.{List, sym, subst}
use Rattle.pa_record.specs.RunText.{history_of}
use Rattle.pa_rules.specs.declared.played.Played.{Played}
use Rattle.pa_rules.specs.declared.verdict.Clause.TheVariants as clauses
use Rattle.pa_rules.specs.RecordDemands.{CellsDemand}
use Rattle.pa_audit.specs.Lined.{TellsLine}
use Rattle.pa_audit.specs.Placed.{TellsPlace}
use Rattle.pa_audit.proofs.Granted.{cells_rest}
use Rattle.pa_audit.proofs.Placing.{place_there, place_told}
use Rattle.pa_audit.proofs.cells.cells_fail.Goals as goal

pub line_where-requires-clause-there : goal.line_where-requires-clause-there
line_where-requires-clause-there c =
    let t = c.args.trace.now in
    let r = c.args.run.now in
    place_there clauses.Cells t r c.in_ok-place.place (cells_rest t r)
    (subst (λ (ps : List Played). TellsPlace (CellsDemand (history_of r) ps) c.in_ok-place.place) c.requires.records c.in_ok-place.ensures)

pub returns : goal.returns
returns c =
    let t = c.args.trace.now in
    let r = c.args.run.now in
    subst (λ o. TellsLine clauses.Cells t r o) (sym c.line_where.ensures)
    (place_told clauses.Cells t r c.in_ok-place.place (cells_rest t r)
    (subst (λ (ps : List Played). TellsPlace (CellsDemand (history_of r) ps) c.in_ok-place.place) c.requires.records c.in_ok-place.ensures))
