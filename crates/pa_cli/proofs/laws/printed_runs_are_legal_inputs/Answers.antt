use Rattle.pa_cli.proofs.Legal.{resized_legal, modelled_legal, replayed_legal}
use Rattle.pa_cli.proofs.laws.printed_runs_are_legal_inputs.Goals as goal

pub returns-clause-resized : goal.returns-clause-resized
returns-clause-resized c = resized_legal

pub returns-clause-modelled : goal.returns-clause-modelled
returns-clause-modelled c = modelled_legal

pub returns-clause-replayed : goal.returns-clause-replayed
returns-clause-replayed c = replayed_legal
