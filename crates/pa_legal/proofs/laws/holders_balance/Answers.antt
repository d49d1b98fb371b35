use Rattle.pa_legal.proofs.Balance.{holders_balance}
use Rattle.pa_legal.proofs.laws.holders_balance.Goals as goal

pub returns : goal.returns
returns c = holders_balance
