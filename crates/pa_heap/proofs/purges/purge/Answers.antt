use Rattle.std.proofs.Common.{◌≡◌, ◌<◌, refl, ◌∙◌, subst, arith}
use Rattle.pa_slot.proofs.Outcomes.{any_err}
use Rattle.pa_heap.proofs.Purging.{Purging, purging_none, purging_stake, purging_thread, purging_more}
use Rattle.pa_heap.proofs.Purged.{purge_does}
use Rattle.pa_heap.proofs.Stopped.{purges_one_more}
use Rattle.pa_heap.proofs.purges.purge.Goals as goal

pub loop-partition-init : goal.loop-partition-init
loop-partition-init g c = record { some = purging_none c.args.line c.args.stock.now; few = omega arith; first = refl; budget = refl }

pub purge_partition-requires-clause-stake : goal.purge_partition-requires-clause-stake
purge_partition-requires-clause-stake g c =
    purging_stake c.args.line c.loop-partition.partition c.loop-partition.slots c.args.stock.now c.loop-partition.stock
    c.loop-partition.invariant.some c.requires.stake

pub loop-partition-preserved : goal.loop-partition-preserved
loop-partition-preserved g c =
    let s = c.args.stock.now in let n = c.loop-partition.partition in
    let e = c.partitions-partition-end.ensures in
    let below : n < s.partitions = let t = c.loop-partition-test.true in omega arith in
    let low : n < 4 = let few = c.kept.ensures.stock.partitions in omega arith in
    record {
      some = purging_more c.args.line n c.loop-partition.slots c.in_ok-slots.field-0 s c.loop-partition.stock c.purge_partition.new.self
          c.kept-in-loop-partition.ensures.stock
          c.loop-partition.invariant.some c.in_ok-slots.ensures.purges below low;
      first = purges_one_more c.args.line n c.in_ok-slots.field-0 s c.loop-partition.stock c.purge_partition.new.self
          c.loop-partition.invariant.first
          c.in_ok-slots.ensures.purges;
      few = let a = c.loop-partition.invariant.few in let b = c.in_ok-slots.ensures.few in omega arith;
      budget = c.purge_partition.ensures.budget ∙ c.loop-partition.invariant.budget;
    }

pub returns-clause-does : goal.returns-clause-does
returns-clause-does g c =
    let s = c.args.stock.now in
    let e = c.partitions-partition-end.ensures in
    let end : c.loop-partition.partition ≡ s.partitions = let a = c.loop-partition-test.false in
    let b = c.loop-partition.auto.partition-end in omega arith in
    purge_does c.args.line c.loop-partition.slots s c.loop-partition.stock c.kept.ensures.stock c.kept-2.ensures.stock
    (subst (λ k. Purging c.args.line k c.loop-partition.slots s c.loop-partition.stock) end c.loop-partition.invariant.some)

pub returns-in_err-slots-clause-stake : goal.returns-in_err-slots-clause-stake
returns-in_err-slots-clause-stake g c = any_err c.from_residual.result _ (record {
  thread = c.in_err-slots.ensures.stake.thread
      ∙ purging_thread c.args.line c.loop-partition.partition c.loop-partition.slots c.args.stock.now c.loop-partition.stock
      c.loop-partition.invariant.some;
  stake = c.in_err-slots.ensures.stake.stake;
})

pub returns-in_err-slots-clause-left : goal.returns-in_err-slots-clause-left
returns-in_err-slots-clause-left g c =
    let e = c.partitions-partition-end.ensures in
    let t = c.loop-partition-test.true in
    any_err c.from_residual.result _ (record {
      partition = c.loop-partition.partition;
      among = omega arith;
      between = c.loop-partition.stock;
      purged = c.loop-partition.invariant.first;
      stopped = c.in_err-slots.ensures.stops;
    })
