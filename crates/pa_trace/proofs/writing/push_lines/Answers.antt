use Rattle.std.proofs.Common.{◌<◌, length, get_or, take, arith}
use Rattle.std.proofs.lemmas.List.{take_more}
use Rattle.pa_trace.specs.declared.script.Line.TheVariants.{Phase}
use Rattle.pa_trace.proofs.Written.{more_written}
use Rattle.pa_trace.proofs.writing.push_lines.Goals as goal

pub loop-line-preserved : goal.loop-line-preserved
loop-line-preserved c =
    let lines = c.args.lines.now in
    let i = c.loop-line.line-index in
    let lt : i < length lines = omega arith in
    rw (take_more lines i Phase lt)
    (more_written (take i lines)
    (get_or lines i Phase) c.args.out.now c.loop-line.out c.push_line.new.out c.loop-line.invariant c.in_ok-push_line.ensures.pushed)
