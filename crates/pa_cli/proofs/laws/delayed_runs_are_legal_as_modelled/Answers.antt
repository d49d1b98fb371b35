use Rattle.pa_cli.proofs.Legal.{delayed_legal}
use Rattle.pa_cli.proofs.laws.delayed_runs_are_legal_as_modelled.Goals as goal

pub returns : goal.returns
returns c = delayed_legal
