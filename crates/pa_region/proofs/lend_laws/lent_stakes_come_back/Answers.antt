use Rattle.pa_region.proofs.LendBack.{lends_back}
use Rattle.pa_region.proofs.lend_laws.lent_stakes_come_back.Goals as goal

pub returns : goal.returns
returns c lender done r more mine can there long aware back logged = lends_back lender done r more mine can there long aware back logged
