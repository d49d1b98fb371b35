use Rattle.pa_core_run.proofs.Coming.{titles_go}
use Rattle.pa_core_run.proofs.laws.titles_come_and_go.Goals as goal

pub returns : goal.returns
returns c = titles_go
