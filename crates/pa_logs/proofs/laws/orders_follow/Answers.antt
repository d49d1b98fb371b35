use Rattle.pa_logs.proofs.Orders.{orders_follow}
use Rattle.pa_logs.proofs.laws.orders_follow.Goals as goal

pub returns : goal.returns
returns c = orders_follow
