use Rattle.pa_logs.proofs.Slots.{slots_follow}
use Rattle.pa_logs.proofs.laws.slots_follow.Goals as goal

pub returns : goal.returns
returns c = slots_follow
