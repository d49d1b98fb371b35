use Rattle.std.proofs.Common.{ap, ◌∙◌, arith}
use Rattle.pa_slot.proofs.Outcomes.{any_err}
use Rattle.pa_trace.specs.declared.script.Op.TheVariants as ops
use Rattle.pa_record.specs.declared.entry.Answer.TheVariants as answers
use Rattle.pa_rules.specs.Caches.{all_listed}
use Rattle.pa_player.specs.Changes.{purged_from}
use Rattle.pa_player.specs.Playing.{caches}
use Rattle.pa_player.proofs.PurgePlays.{purge_plays}
use Rattle.pa_player.proofs.Branches.{plays_as}
use Rattle.pa_player.proofs.Partitions.{all_start, all_more, all_end, slots_few}
use Rattle.pa_player.proofs.Ready.{purge_ready}
use Rattle.pa_player.proofs.Settling.{partitions_settled}
use Rattle.pa_player.proofs.purge.Player+Told+O.purge.Goals as goal

pub loop-partition-init : goal.loop-partition-init
loop-partition-init g c = all_start c.args.thread c.args.self.now (purge_ready c.args.self.now c.args.thread c.requires)

pub purge_one-requires : goal.purge_one-requires
purge_one-requires g c = c.loop-partition.invariant.each c.loop-partition.partition (omega arith) c.loop-partition-test.true

pub overflow_add-slots : goal.overflow_add-slots
overflow_add-slots g c =
    let can = purge_ready c.args.self.now c.args.thread c.requires in
    let four = can.four in
    let lt = c.loop-partition-test.true in
    let few = slots_few c.args.thread c.loop-partition.partition c.args.self.now c.loop-partition.self c.loop-partition.slots
    c.in_ok-slots.field-0 c.loop-partition.invariant lt c.in_ok-slots.ensures.slots in
    let so_far = c.loop-partition.invariant.few in
    omega arith

pub loop-partition-preserved : goal.loop-partition-preserved
loop-partition-preserved g c =
    all_more c.args.thread c.loop-partition.partition c.args.self.now c.loop-partition.self c.purge_one.new.self c.loop-partition.slots
    c.in_ok-slots.field-0 c.loop-partition.invariant
    c.loop-partition-test.true c.in_ok-slots.ensures.slots c.in_ok-slots.ensures.purged

pub returns-clause-played : goal.returns-clause-played
returns-clause-played g c =
    let p = c.args.self.now in
    let past = c.loop-partition-test.false in
    let last = c.loop-partition.auto.partition-end in
    let end = all_end c.args.thread c.loop-partition.partition p c.loop-partition.self c.loop-partition.slots c.loop-partition.invariant
    (omega arith) in
    plays_as p c.args.thread ops.Purge (purged_from c.args.thread 0 p.partitions p) c.loop-partition.self
    (answers.Purged (all_listed (caches p c.args.thread) 0 p.partitions))
    (answers.Purged c.loop-partition.slots) end.0 (ap answers.Purged end.1) (purge_plays p c.args.thread)

pub returns-in_err-slots-clause-same : goal.returns-in_err-slots-clause-same
returns-in_err-slots-clause-same g c =
    any_err _ _ (c.in_err-slots.ensures.same ∙
    partitions_settled c.args.thread c.loop-partition.partition c.args.self.now c.loop-partition.self c.loop-partition.slots
    c.loop-partition.invariant)
