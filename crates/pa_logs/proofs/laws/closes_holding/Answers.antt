use Rattle.pa_logs.proofs.Closing.{closes_holding}
use Rattle.pa_logs.proofs.laws.closes_holding.Goals as goal

pub returns : goal.returns
returns c = closes_holding
