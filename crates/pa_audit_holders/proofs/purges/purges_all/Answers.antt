use Rattle.std.proofs.Common.{◌<◌, subst}
use Rattle.std.proofs.lemmas.Bool.{false≢true}
use Rattle.pa_audit_holders.proofs.Purging.{all_not, all_more}
use Rattle.pa_audit_holders.proofs.purges.purges_all.Goals as goal

pub returns-in_default : goal.returns-in_default
returns-in_default c =
    let less = subst (λ n. c.loop-partition.partition < n) c.partitions-partition-end.ensures.partitions c.loop-partition-test.true in
    (λ yes. absurd (false≢true yes), λ all. absurd (all_not c.loop-partition.invariant less c.in_default.ensures all))

pub loop-partition-preserved : goal.loop-partition-preserved
loop-partition-preserved c =
    let less = subst (λ n. c.loop-partition.partition < n) c.partitions-partition-end.ensures.partitions c.loop-partition-test.true in
    all_more c.loop-partition.invariant less c.in-Some.rest c.in-Some.ensures
