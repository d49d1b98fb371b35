use Rattle.std.proofs.Common.{subst, sym}
use Rattle.pa_heap.specs.Waiting.{HoldsQueue}
use Rattle.pa_delay.specs.Queue.{QueueList}
use Rattle.pa_heap.proofs.Queued.{holds_more, holds_beside}
use Rattle.pa_heap.proofs.queues.wait_behind.Goals as goal

pub evict_all-requires-clause-holds : goal.evict_all-requires-clause-holds
evict_all-requires-clause-holds g c =
    let (class, of, real) = c.is_listed.ensures.some c.if-is_listed.true in
    subst (λ (q : QueueList). HoldsQueue q.slots c.args.stock.now) (sym c.push.ensures.back)
    (holds_more c.args.handle c.args.queue.now c.args.stock.now _ class c.requires.can c.lies.ensures of real c.requires.holds)

pub returns-in_ok-bring_back-clause-holds : goal.returns-in_ok-bring_back-clause-holds
returns-in_ok-bring_back-clause-holds g c =
    holds_beside c.slots_stay_seen.ensures c.args.line c.args.handle c.args.queue.now c.args.stock.now c.bring_back.new.self
    c.kept.ensures.stock c.requires.can
    (record {
      free = c.requires.can.back;
      brought = c.in_ok-bring_back.ensures.back;
      stock = c.kept-else-is_listed.ensures.stock;
    })
    c.requires.holds
