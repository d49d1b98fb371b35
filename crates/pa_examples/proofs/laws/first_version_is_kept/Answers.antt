use Rattle.pa_examples.proofs.FirstVersion.{first_version_is_kept}
use Rattle.pa_examples.proofs.laws.first_version_is_kept.Goals as goal

pub returns : goal.returns
returns c = first_version_is_kept
