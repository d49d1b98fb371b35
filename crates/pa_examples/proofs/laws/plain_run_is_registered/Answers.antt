use Rattle.pa_examples.proofs.worked.Plain.{plain_run_is_registered}
use Rattle.pa_examples.proofs.laws.plain_run_is_registered.Goals as goal

pub returns : goal.returns
returns c = plain_run_is_registered
