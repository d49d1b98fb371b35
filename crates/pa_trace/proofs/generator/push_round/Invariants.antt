use Rattle.std.proofs.Common.{◌≡◌, ◌++◌}
use Rattle.pa_trace.specs.Generated.{parts, thread_lines}
use Rattle.pa_trace.proofs.generator.push_round.Given as goal

-- the lines of the threads so far
abbrev pub invariant-loop-thread : goal.invariant-loop-thread
invariant-loop-thread l = l.lines.items ≡ l.fn.lines.items ++ parts (thread_lines l.words l.round) l.thread
