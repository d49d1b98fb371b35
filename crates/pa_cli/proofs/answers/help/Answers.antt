use Rattle.std.proofs.Common.{refl}
use Rattle.pa_cli.proofs.answers.help.Goals as goal

pub returns : goal.returns
returns c = refl
