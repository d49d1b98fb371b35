use Rattle.std.proofs.Common.{arith}
use Rattle.std.proofs.lemmas.Bool.{both_ways}
use Rattle.pa_audit_heap.proofs.SlotNames.{before_more}
use Rattle.pa_audit_heap.proofs.replay.stands_before.Goals as goal

pub loop-at-preserved : goal.loop-at-preserved
loop-at-preserved c =
    let within = c.loop-at-test.true in
    before_more c.args.slots.now c.loop-at.at c.args.name (omega (arith, c.requires)) c.loop-at.invariant
    (λ same. both_ways _ c.if-is_same.false (c.is_same.ensures.1 same))
