use Rattle.pa_delay_runner.proofs.Leading.{records_lead}
use Rattle.pa_delay_runner.proofs.laws.records_lead.Goals as goal

pub returns : goal.returns
returns c = records_lead
