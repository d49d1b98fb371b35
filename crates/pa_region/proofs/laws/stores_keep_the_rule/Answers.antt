use Rattle.pa_region.proofs.StoreStep.{store_event, store_keeps}
use Rattle.pa_region.proofs.laws.stores_keep_the_rule.Goals as goal

pub returns : goal.returns
returns c at_byte value words views i v k at_i can =
    (store_event at_byte value words views i v k at_i can, store_keeps at_byte value words views i v k at_i can)
