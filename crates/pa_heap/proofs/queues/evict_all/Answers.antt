use Rattle.std.proofs.Common.{◌∙◌, ap, subst}
use Rattle.pa_slot.proofs.Outcomes.{any_err}
use Rattle.pa_lists.proofs.Members.{first_in}
use Rattle.pa_delay.specs.Queue.{QueueList, with_waiting}
use Rattle.pa_heap.specs.Waiting.{HoldsQueue}
use Rattle.pa_heap.proofs.Queued.{can_return, evicted_none, evicted_more, evicted_all}
use Rattle.pa_heap.proofs.queues.evict_all.Goals as goal

pub loop-front-init : goal.loop-front-init
loop-front-init g c = evicted_none c.args.line c.args.stock.now c.args.queue.now c.requires.holds c.requires.stake

pub bring_back-requires-clause-stake : goal.bring_back-requires-clause-stake
bring_back-requires-clause-stake g c = c.loop-front.invariant.keeps.stake

pub bring_back-requires-clause-back : goal.bring_back-requires-clause-back
bring_back-requires-clause-back g c =
    let holds = subst (λ hs. HoldsQueue hs c.loop-front.stock) c.in-Some.ensures.front c.loop-front.invariant.holds in
    can_return c.in-Some.front c.loop-front.stock (holds.each c.in-Some.front (first_in c.in-Some.front c.evict.new.self.slots))

pub returns-in_err-bring_back-clause-rest : goal.returns-in_err-bring_back-clause-rest
returns-in_err-bring_back-clause-rest g c =
    c.in-Some.ensures.rest ∙ ap (λ (z : QueueList). with_waiting z c.evict.new.self.slots) c.loop-front.invariant.rest

pub returns-in_err-bring_back-clause-stake : goal.returns-in_err-bring_back-clause-stake
returns-in_err-bring_back-clause-stake g c = any_err c.from_residual.result _ (record {
  thread = c.in_err-bring_back.ensures.stake.thread ∙ c.loop-front.invariant.keeps.thread;
  stake = c.in_err-bring_back.ensures.stake.stake;
})

pub loop-front-preserved : goal.loop-front-preserved
loop-front-preserved g c =
    let holds = subst (λ hs. HoldsQueue hs c.loop-front.stock) c.in-Some.ensures.front c.loop-front.invariant.holds in
    evicted_more c.slots_stay_seen.ensures c.args.line c.in-Some.front c.args.stock.now c.loop-front.stock c.bring_back.new.self
    c.args.queue.now c.loop-front.queue c.evict.new.self c.kept.ensures.stock
    c.loop-front.invariant c.in-Some.ensures.front c.in-Some.ensures.rest c.in-Some.ensures.goes
    (record {
      free = can_return c.in-Some.front c.loop-front.stock (holds.each c.in-Some.front (first_in c.in-Some.front c.evict.new.self.slots));
      brought = c.in_ok-bring_back.ensures.back;
      stock = c.kept-in-Some.ensures.stock;
    })

pub returns-clause-leaves : goal.returns-clause-leaves
returns-clause-leaves g c =
    evicted_all c.args.line c.args.stock.now c.loop-front.stock c.args.queue.now c.loop-front.queue c.evict.new.self c.loop-front.invariant
    c.in_default.ensures.stays

pub returns-clause-rest : goal.returns-clause-rest
returns-clause-rest g c =
    c.in_default.ensures.rest ∙ ap (λ (z : QueueList). with_waiting z c.evict.new.self.slots) c.loop-front.invariant.rest

pub returns-clause-holds : goal.returns-clause-holds
returns-clause-holds g c = subst (λ hs. HoldsQueue hs c.loop-front.stock) c.in_default.ensures.front c.loop-front.invariant.holds

pub returns-clause-budget : goal.returns-clause-budget
returns-clause-budget g c = c.loop-front.invariant.budget
