use Rattle.std.proofs.Common.{◌∙◌, ap, arith}
use Rattle.pa_record.specs.declared.report.Tally.{Tally}
use Rattle.pa_delay.specs.Queue.{QueueList, queued_bytes, queued_slots}
use Rattle.pa_delay.proofs.Queueing.{bytes_of_slots}
use Rattle.pa_delay.proofs.queue.Delay.queued.Goals as goal

pub returns-clause-slots : goal.returns-clause-slots
returns-clause-slots c =
    let (sum, few, fits, classes, tallied) = c.self.invariant in
    ap (λ (t : Tally). t.slots) (tallied.each c.args.partition c.requires.partition)
    ∙ ap (λ (q : QueueList). queued_slots c.args.partition q.slots) c.self.view_is

pub returns-clause-bytes : goal.returns-clause-bytes
returns-clause-bytes c =
    let (sum, few, fits, classes, tallied) = c.self.invariant in
    ap (λ (t : Tally). t.bytes) (tallied.each c.args.partition c.requires.partition)
    ∙ ap (λ (q : QueueList). queued_bytes c.args.partition q.slots) c.self.view_is

pub returns-clause-small : goal.returns-clause-small
returns-clause-small c =
    let (sum, few, fits, classes, tallied) = c.self.invariant in
    let is = tallied.each c.args.partition c.requires.partition in
    let slots = ap (λ (t : Tally). t.slots) is in
    let bytes = ap (λ (t : Tally). t.bytes) is in
    let most = bytes_of_slots c.args.partition c.self.inside.slots.items classes in
    omega (arith, slots, bytes, most)
