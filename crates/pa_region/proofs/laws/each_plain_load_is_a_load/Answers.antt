use Rattle.pa_region.proofs.Loading.{plain_event}
use Rattle.pa_region.proofs.laws.each_plain_load_is_a_load.Goals as goal

pub returns : goal.returns
returns c at_byte words views i v k at_i aligned plain = plain_event at_byte words views i v k at_i aligned plain
