use Rattle.std.proofs.Common.{◌≡◌, ◌++◌, map, take}
use Rattle.pa_trace.specs.declared.script.Line.TheVariants.{Do}
use Rattle.pa_trace.proofs.generator.push_pointers.Given as goal

-- the lines of the ops so far
abbrev pub invariant-loop-op : goal.invariant-loop-op
invariant-loop-op l = l.lines.items ≡ l.fn.lines.items ++ map (Do l.thread) (take l.op-index l.op-items)
