use Rattle.pa_region_core.proofs.Runs.{take_is_run}
use Rattle.pa_region_core.proofs.laws.each_take_is_its_events.Goals as goal

pub returns : goal.returns
returns c = take_is_run
