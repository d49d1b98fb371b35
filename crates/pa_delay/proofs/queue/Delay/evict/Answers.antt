use Rattle.std.proofs.Common.{◌<◌, ap, subst, arith, ◌∙◌}
use Rattle.std.specs.Prelude.{IfSome}
use Rattle.pa_delay.specs.Queue.{QueueList, GoesFirst, waiting_bytes}
use Rattle.pa_delay.proofs.Queueing.{some_goes}
use Rattle.pa_delay.proofs.queue.Delay.evict.Goals as goal

pub returns-else-self-clause-goes : goal.returns-else-self-clause-goes
returns-else-self-clause-goes c =
    let now : QueueList = record { limit = c.self.inside.limit; room = c.self.inside.room; slots = c.self.inside.slots.items } in
    let sum = c.self.invariant.0 in
    let over = c.if-self.false in
    let many : c.self.inside.limit < waiting_bytes c.self.inside.slots.items = omega arith in
    let front = ap (λ (q : QueueList). q.slots) c.self.view_is ∙ c.drain.ensures.front in
    subst (λ (q : QueueList). IfSome c.drain.result (GoesFirst q c.drain.new.self.slots)) c.self.view_is
    (some_goes now c.drain.result c.drain.new.self.slots front many)
