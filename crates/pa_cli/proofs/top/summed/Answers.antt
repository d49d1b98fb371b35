use Rattle.pa_cli.proofs.Printing.{run_summed}
use Rattle.pa_cli.proofs.top.summed.Goals as goal

pub returns : goal.returns
returns g c = run_summed _ _ _ _ _ _ c.in_ok-trace.ensures.trace c.in_ok-run.ensures c.in_ok-text.ensures.text
