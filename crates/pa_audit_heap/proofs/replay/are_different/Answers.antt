use Rattle.std.proofs.Common.{refl}
use Rattle.std.proofs.lemmas.Bool.{both_ways, false≢true}
use Rattle.pa_audit_heap.proofs.SlotNames.{different_more, not_different, all_different}
use Rattle.pa_audit_heap.proofs.replay.are_different.Goals as goal

pub returns-then-stands_before : goal.returns-then-stands_before
returns-then-stands_before c = (
  λ yes. absurd (false≢true yes),
  λ differ. absurd
      (not_different c.args.slots.now c.loop-at.at c.loop-at-test.true (c.stands_before.ensures.0 c.if-stands_before.true) differ),
)

pub loop-at-preserved : goal.loop-at-preserved
loop-at-preserved c =
    different_more c.args.slots.now c.loop-at.at c.loop-at-test.true c.loop-at.invariant
    (λ among. both_ways _ c.if-stands_before.false (c.stands_before.ensures.1 among))

pub returns : goal.returns
returns c = (λ yes. all_different c.args.slots.now c.loop-at.at c.loop-at-test.false c.loop-at.invariant, λ differ. refl)
