use Rattle.pa_region.proofs.LendBack.{host_keeps}
use Rattle.pa_region.proofs.lend_laws.hosts_keep.Goals as goal

pub returns : goal.returns
returns c host lender done r can there long aware none keeps = host_keeps host lender done r can there long aware none keeps
