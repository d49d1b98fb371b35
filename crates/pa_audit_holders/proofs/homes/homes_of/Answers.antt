use Rattle.std.proofs.Common.{arith}
use Rattle.pa_audit_records.specs.ByKeys.{value_at}
use Rattle.pa_audit_holders.proofs.Housing.{homes_all}
use Rattle.pa_audit_holders.proofs.homes.homes_of.Goals as goal

pub returns : goal.returns
returns c = let l = c.loop-journal in
    homes_all c.args.roots.now l.partition (value_at l.homes)
    (omega (arith, l.invariant.at, c.loop-journal-test.false)) l.invariant.homes l.invariant.above
