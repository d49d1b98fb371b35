use Rattle.std.proofs.Common.{take}
use Rattle.pa_trace.specs.Grammar.{AreLinesText}
use Rattle.pa_trace.specs.Cut.{Appends}
use Rattle.pa_trace.proofs.writing.push_lines.Given as goal

abbrev pub invariant-loop-line : goal.invariant-loop-line
invariant-loop-line l = Appends (AreLinesText (take l.line-index l.lines)) l.fn.out l.out
