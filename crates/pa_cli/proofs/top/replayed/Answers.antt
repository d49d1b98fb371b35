use Rattle.pa_cli.proofs.Printing.{run_replayed}
use Rattle.pa_cli.proofs.top.replayed.Goals as goal

pub returns : goal.returns
returns g c = run_replayed _ _ _ _ c.requires c.one_thread_in_file_order.ensures c.in_ok-run.ensures c.in_ok-text.ensures.text
