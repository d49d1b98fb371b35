use Rattle.pa_rules.specs.Cells.{history_at}
use Rattle.pa_dangle.proofs.Leading.{Shortens}
use Rattle.pa_dangle.proofs.ways.shorten.Given as goal

abbrev pub invariant-loop-step : goal.invariant-loop-step
invariant-loop-step l = Shortens (history_at l.cells) l.records l.ways l.now l.line
