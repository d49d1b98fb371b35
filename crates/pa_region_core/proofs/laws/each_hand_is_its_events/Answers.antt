use Rattle.pa_region_core.proofs.Runs.{hand_is_run}
use Rattle.pa_region_core.proofs.laws.each_hand_is_its_events.Goals as goal

pub returns : goal.returns
returns c = hand_is_run
