use Rattle.pa_rules.specs.Cells.{history_at}
use Rattle.pa_dangle.proofs.Leading.{Goes}
use Rattle.pa_dangle.proofs.ways.end_of.Given as goal

abbrev pub invariant-loop-step : goal.invariant-loop-step
invariant-loop-step l = Goes (history_at l.cells) l.records l.ways l.at l.now l._step
