use Rattle.pa_thread_state.proofs.Parting.{whole_region}
use Rattle.pa_thread_state.proofs.heap.is_whole.Goals as goal

pub returns : goal.returns
returns c = whole_region c.args.supers c.args.budget c.args.seat.now c.requires c.aware.ensures.long
