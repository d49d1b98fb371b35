use Rattle.std.proofs.Common.{sym, subst}
use Rattle.pa_audit_input.specs.Cutting.{IsRunPartFault}
use Rattle.pa_audit_input.proofs.Passing.{past_bad, past_end, past_good}
use Rattle.pa_audit_input.proofs.run_part.past_fault.Goals.{in-Ok, in-Err-BadLine, in-Err-BadLine-2, in-Err-OutOfMemory}
use Rattle.pa_audit_input.proofs.run_part.past_fault.Goals as goal

pub returns : goal.returns
returns c =
    let lines = c.args.lines in
    let before = c.args.before in
    let back = c.args.back.now in
    let whole = c.last_cut-count.result.0.now in
    let count = c.last_cut-count.result.1 in
    let last = c.last_cut-count.ensures.cut.0 in
    let cut = c.last_cut-count.ensures.cut.1 in
    let past = c.requires.past in
    elim c.match-read_dense_run.branch [
      | in-Ok w ↦
          subst (IsRunPartFault lines before back) (sym w.result-is)
          (past_good lines before count back whole last w.in-Ok.field-0 cut cut.some past w.in-Ok.ensures.found)
      | in-Err-BadLine w ↦
          let bad = rw w.in-Err-BadLine.field-0-is at w.in-Err-BadLine.ensures.fault in
          subst (IsRunPartFault lines before back) (sym w.result-is)
          (past_bad lines before w.in-Err-BadLine.line count back whole last cut cut.some past w.if-line-count.true bad)
      | in-Err-BadLine-2 w ↦
          let bad = rw w.in-Err-BadLine.field-0-is at w.in-Err-BadLine.ensures.fault in
          subst (IsRunPartFault lines before back) (sym w.result-is)
          (past_end lines before w.in-Err-BadLine.line count back whole last cut cut.some past w.if-line-count.false bad)
      | in-Err-OutOfMemory w ↦ subst (IsRunPartFault lines before back) (sym w.result-is) tt
    ]
