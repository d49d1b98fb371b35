use Rattle.pa_region.proofs.LendBack.{lends_again, hosts_again}
use Rattle.pa_region.proofs.lend_laws.who_lent_can_lend_again.Goals as goal

pub returns : goal.returns
returns c v w keeps = ((λ can. lends_again v w keeps can), (λ can. hosts_again v w keeps can))
