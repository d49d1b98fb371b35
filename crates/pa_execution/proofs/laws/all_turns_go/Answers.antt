use Rattle.pa_execution.proofs.Turning.{all_turns_go}
use Rattle.pa_execution.proofs.laws.all_turns_go.Goals as goal

pub returns : goal.returns
returns c = all_turns_go
