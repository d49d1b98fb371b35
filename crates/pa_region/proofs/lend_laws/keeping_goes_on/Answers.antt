use Rattle.pa_region.proofs.LendBack.{keeps_on}
use Rattle.pa_region.proofs.lend_laws.keeping_goes_on.Goals as goal

pub returns : goal.returns
returns c u v w a b = keeps_on u v w a b
