use Rattle.std.proofs.Common.{◌∙◌, ap, subst}
use Rattle.pa_slot.proofs.Outcomes.{any_err}
use Rattle.pa_lists.proofs.Members.{first_in}
use Rattle.pa_delay.specs.Queue.{QueueList, with_waiting}
use Rattle.pa_heap.specs.Waiting.{HoldsQueue}
use Rattle.pa_heap.proofs.Queued.{can_return, drained_none, drained_more}
use Rattle.pa_heap.proofs.queues.drain_all.Goals as goal

pub loop-front-init : goal.loop-front-init
loop-front-init g c = drained_none c.args.line c.args.stock.now c.args.queue.now c.requires.holds c.requires.stake

pub bring_back-requires-clause-stake : goal.bring_back-requires-clause-stake
bring_back-requires-clause-stake g c = c.loop-front.invariant.keeps.stake

pub bring_back-requires-clause-back : goal.bring_back-requires-clause-back
bring_back-requires-clause-back g c =
    let holds = subst (λ hs. HoldsQueue hs c.loop-front.stock) c.in-Some.ensures.front c.loop-front.invariant.holds in
    can_return c.in-Some.front c.loop-front.stock (holds.each c.in-Some.front (first_in c.in-Some.front c.drain.new.self.slots))

pub returns-in_err-bring_back-clause-rest : goal.returns-in_err-bring_back-clause-rest
returns-in_err-bring_back-clause-rest g c =
    c.in-Some.ensures.rest ∙ ap (λ (z : QueueList). with_waiting z c.drain.new.self.slots) c.loop-front.invariant.rest

pub returns-in_err-bring_back-clause-stake : goal.returns-in_err-bring_back-clause-stake
returns-in_err-bring_back-clause-stake g c = any_err c.from_residual.result _ (record {
  thread = c.in_err-bring_back.ensures.stake.thread ∙ c.loop-front.invariant.keeps.thread;
  stake = c.in_err-bring_back.ensures.stake.stake;
})

pub loop-front-preserved : goal.loop-front-preserved
loop-front-preserved g c =
    let holds = subst (λ hs. HoldsQueue hs c.loop-front.stock) c.in-Some.ensures.front c.loop-front.invariant.holds in
    drained_more c.slots_stay_seen.ensures c.args.line c.in-Some.front c.args.stock.now c.loop-front.stock c.bring_back.new.self
    c.args.queue.now c.loop-front.queue c.drain.new.self c.kept.ensures.stock
    c.loop-front.invariant c.in-Some.ensures.front c.in-Some.ensures.rest
    (record {
      free = can_return c.in-Some.front c.loop-front.stock (holds.each c.in-Some.front (first_in c.in-Some.front c.drain.new.self.slots));
      brought = c.in_ok-bring_back.ensures.back;
      stock = c.kept-in-Some.ensures.stock;
    })

pub returns-clause-rest : goal.returns-clause-rest
returns-clause-rest g c =
    c.in_default.ensures.rest ∙ ap (λ (z : QueueList). with_waiting z c.drain.new.self.slots) c.loop-front.invariant.rest
