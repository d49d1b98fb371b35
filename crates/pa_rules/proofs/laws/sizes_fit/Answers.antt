use Rattle.pa_rules.proofs.Sizes.{sizes_fit}
use Rattle.pa_rules.proofs.laws.sizes_fit.Goals as goal

pub returns : goal.returns
returns c = sizes_fit
