use Rattle.pa_region.proofs.OneOrder.{knows_order}
use Rattle.pa_region.proofs.read_laws.one_order_is_known.Goals as goal

pub returns : goal.returns
returns c words views i v k at_i every = knows_order words views i v k at_i every
