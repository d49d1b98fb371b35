use Rattle.std.proofs.Common.{arith}
use Rattle.pa_audit_input.proofs.Passing.{bad_below, run_bad}
use Rattle.pa_audit_input.proofs.Counting.{lines_few}
use Rattle.pa_trace.specs.Faults.{lines_of}
use Rattle.std.proofs.Common.{None}
use Rattle.pa_audit_input.proofs.run_part.run_behind.Goals as goal

pub overflow_add-result : goal.overflow_add-result
overflow_add-result c =
    let back = c.args.back.now in
    let bad = rw c.in-Err-BadLine.field-0-is at c.in-Err-BadLine.ensures.fault in
    let most = bad_below 1 None (lines_of back) c.in-Err-BadLine.line bad in
    let few = lines_few back in
    omega (arith, most, few, c.requires.lines, c.requires.short)

pub returns-in-Err-BadLine-clause-fault : goal.returns-in-Err-BadLine-clause-fault
returns-in-Err-BadLine-clause-fault c =
    let bad = rw c.in-Err-BadLine.field-0-is at c.in-Err-BadLine.ensures.fault in
    run_bad c.args.lines c.args.before c.in-Err-BadLine.line c.args.back.now c.if-before-back-gt-MOST_AUDITED.false bad
