use Rattle.std.proofs.Common.{arith}
use Rattle.pa_rules.proofs.Versions.{raw_in, raw_most}
use Rattle.pa_audit_records.proofs.asked.class_for.Goals as goal

pub returns-then-size-gt-GREATEST_SIZE-clause-none : goal.returns-then-size-gt-GREATEST_SIZE-clause-none
returns-then-size-gt-GREATEST_SIZE-clause-none c =
    λ class h. omega (arith, raw_in c.args.version _ class h, raw_most c.args.version, c.if-size-gt-GREATEST_SIZE.true)

pub returns-in-None-clause-none : goal.returns-in-None-clause-none
returns-in-None-clause-none c =
    let large = c.class_in.ensures.refused.0 (search (c.in-None.is)) in
    λ class h. omega (arith, raw_in c.args.version _ class h, large, c.raw_of.ensures)
