use Rattle.pa_cli.proofs.Printing.{run_delayed}
use Rattle.pa_cli.proofs.top.delayed.Goals as goal

pub returns : goal.returns
returns g c = run_delayed _ _ _ _ _ c.no_bytes_no_delay.ensures c.in_ok-run.ensures c.in_ok-text.ensures.text
