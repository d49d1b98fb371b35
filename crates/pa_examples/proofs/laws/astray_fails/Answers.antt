use Rattle.pa_examples.proofs.wrong.Astray.{astray_fails}
use Rattle.pa_examples.proofs.laws.astray_fails.Goals as goal

pub returns : goal.returns
returns c = astray_fails
