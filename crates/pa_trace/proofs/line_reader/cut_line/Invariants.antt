use Rattle.std.proofs.Common.{take}
use Rattle.pa_trace.specs.Cut.{IsOneLine}
use Rattle.pa_trace.proofs.line_reader.cut_line.Given as goal

abbrev pub invariant-loop-i : goal.invariant-loop-i
invariant-loop-i l = IsOneLine (take l.i l.bytes)
