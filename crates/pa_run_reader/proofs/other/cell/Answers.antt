use Rattle.pa_run_reader.proofs.AgainLines.{cell_spelled}
use Rattle.pa_run_reader.proofs.other.cell.Goals as goal

pub returns-clause-found : goal.returns-clause-found
returns-clause-found c =
    cell_spelled c.in_ok-cell.cell c.in_ok-index.index
    (record { line = c.in_ok-line.line; gave = c.in_ok-gave.gave; found = c.in_ok-found.found })
    c.args.bytes.now c.in_ok-cell.rest.now c.in_ok-index.rest.now c.in_ok-line.rest.now c.in_ok-rest.rest.now c.in_ok-gave.rest.now
    c.in_ok-rest-2.rest.now
    c.in_ok-found.rest.now c.in_ok-rest-3.rest.now
    c.in_ok-cell.ensures.found.1 c.in_ok-index.ensures.found.1 c.in_ok-line.ensures.found.1 c.in_ok-rest.ensures.found
    c.in_ok-gave.ensures.found.1
    c.in_ok-rest-2.ensures.found c.in_ok-found.ensures.found.1 c.in_ok-rest-3.ensures.found
