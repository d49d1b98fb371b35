use Rattle.std.proofs.Common.{◌≡◌, ◌<◌, [], sym, ◌∙◌, subst, arith}
use Rattle.std.proofs.lemmas.List.{append-nil}
use Rattle.pa_slot.proofs.Outcomes.{any_err}
use Rattle.pa_heap.specs.Waiting.{HoldsQueue}
use Rattle.pa_heap.proofs.CameBack.{came_back}
use Rattle.pa_heap.proofs.PurgedWaiting.{Emptying, emptying_none, emptying_more, emptying_keeps, emptied_does}
use Rattle.pa_heap.proofs.delayed_purge.purge_waiting.Goals as goal

pub loop-partition-init : goal.loop-partition-init
loop-partition-init g c =
    let hs = c.args.queue.now.slots in
    let s = c.args.stock.now in
    emptying_none c.args.line hs s c.drain_all.new.stock c.kept-2.ensures.stock
    (came_back c.slots_stay_seen.ensures c.args.line hs [] s c.drain_all.new.stock c.kept.ensures.stock c.kept.ensures.aware
    c.requires.stake (subst (λ gs. HoldsQueue gs s) (sym (append-nil hs)) c.requires.waits) c.in_ok-drain_all.ensures.leaves)

pub purge_partition-requires-clause-stake : goal.purge_partition-requires-clause-stake
purge_partition-requires-clause-stake g c =
    (emptying_keeps c.args.line c.loop-partition.partition c.args.queue.now.slots c.args.stock.now c.drain_all.new.stock
    c.loop-partition.stock c.requires.stake c.loop-partition.invariant).stake

pub returns-in_err-purge_partition-clause-stake : goal.returns-in_err-purge_partition-clause-stake
returns-in_err-purge_partition-clause-stake g c =
    let keeps =
    emptying_keeps c.args.line c.loop-partition.partition c.args.queue.now.slots c.args.stock.now c.drain_all.new.stock
    c.loop-partition.stock c.requires.stake c.loop-partition.invariant in
    any_err c.from_residual-in_err-purge_partition.result _ (record {
      thread = c.in_err-purge_partition.ensures.stake.thread ∙ keeps.thread;
      stake = c.in_err-purge_partition.ensures.stake.stake;
    })

pub loop-partition-preserved : goal.loop-partition-preserved
loop-partition-preserved g c =
    let end = c.partitions-partition-end.ensures in
    let below : c.loop-partition.partition < c.drain_all.new.stock.partitions = let t = c.loop-partition-test.true in omega arith in
    emptying_more c.args.line c.loop-partition.partition c.in_ok-purge_partition.field-0 c.args.queue.now.slots c.args.stock.now
    c.drain_all.new.stock c.loop-partition.stock c.purge_partition.new.self c.kept-in-loop-partition.ensures.stock
    c.loop-partition.invariant c.in_ok-purge_partition.ensures.purges below c.purge_partition.ensures.budget

pub returns-clause-does : goal.returns-clause-does
returns-clause-does g c =
    let s = c.args.stock.now in
    let mid = c.drain_all.new.stock in
    let end : c.loop-partition.partition ≡ mid.partitions =
    let a = c.loop-partition-test.false in let b = c.loop-partition.auto.partition-end in
    let e = c.partitions-partition-end.ensures in omega arith in
    emptied_does c.args.line c.count_all-slots.result s mid c.loop-partition.stock c.args.queue.now c.drain_all.new.queue
    c.kept-3.ensures.stock
    (subst (λ n. Emptying c.args.line n c.args.queue.now.slots s mid c.loop-partition.stock) end c.loop-partition.invariant)
    c.in_ok-drain_all.ensures.none c.count_all-slots.ensures

pub returns-clause-budget : goal.returns-clause-budget
returns-clause-budget g c = let same = c.loop-partition.invariant.budget in omega arith
