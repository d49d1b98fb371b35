use Rattle.std.proofs.Common.{arith}
use Rattle.std.proofs.lemmas.Bool.{both_ways, false≢true}
use Rattle.pa_audit_heap.proofs.SlotNames.{names_differ, names_more}
use Rattle.pa_audit_heap.proofs.replay.are_named.Goals as goal

pub returns-then-not-is_named : goal.returns-then-not-is_named
returns-then-not-is_named c =
    let long = c.if-titles-slots.false in
    let within = c.loop-at-test.true in (
      λ yes. absurd (false≢true yes),
      λ same. absurd
          (names_differ c.args.titles.now c.args.slots.now c.loop-at.at within (omega arith)
          (λ one. both_ways _ c.if-not-is_named.true (c.is_named.ensures.1 one)) same),
    )

pub loop-at-preserved : goal.loop-at-preserved
loop-at-preserved c =
    let long = c.if-titles-slots.false in
    let within = c.loop-at-test.true in
    names_more c.args.titles.now c.args.slots.now c.loop-at.at within (omega arith) c.loop-at.invariant
    (c.is_named.ensures.0 c.if-not-is_named.false)
