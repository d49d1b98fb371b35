use Rattle.pa_examples.proofs.wrong.Refused.{refused_fails}
use Rattle.pa_examples.proofs.laws.refused_fails.Goals as goal

pub returns : goal.returns
returns c = refused_fails
