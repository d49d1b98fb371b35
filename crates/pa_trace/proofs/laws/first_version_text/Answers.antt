use Rattle.pa_trace.proofs.Texts.{first_version}
use Rattle.pa_trace.proofs.laws.first_version_text.Goals as goal

pub returns : goal.returns
returns c = first_version
