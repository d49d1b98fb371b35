use Rattle.std.proofs.Common.{◌<◌, arith}
use Rattle.std.proofs.lemmas.Bool.Decides.{nat_tests}
use Rattle.pa_machine.proofs.Enabling.{actor_is, actor_has}
use Rattle.pa_machine.proofs.tables.Tables.has_actor.Goals as goal

pub returns : goal.returns
returns c = (
  λ yes. let below : c.args.actor < c.args.self.now.actors = grind (arith, nat_tests) in actor_has c.args.self.now c.args.actor below,
  λ has. let below = actor_is c.args.self.now c.args.actor has in grind (arith, nat_tests),
)
