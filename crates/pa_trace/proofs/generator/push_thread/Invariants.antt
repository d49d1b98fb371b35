use Rattle.std.proofs.Common.{◌≡◌, ◌++◌}
use Rattle.pa_trace.specs.Generated.{parts, drawn_object}
use Rattle.pa_trace.proofs.generator.push_thread.Given as goal

-- the lines of the objects so far
abbrev pub invariant-loop-object : goal.invariant-loop-object
invariant-loop-object l = l.lines.items ≡ l.fn.lines.items ++ parts (drawn_object l.words l.round l.thread) l.object
