use Rattle.pa_timeline.proofs.Outlined.{timelines_have_outlines}
use Rattle.pa_timeline.proofs.laws.timelines_have_outlines.Goals as goal

pub returns : goal.returns
returns c = timelines_have_outlines
