use Rattle.std.proofs.Common.{length}
use Rattle.pa_trace.specs.Unread.{IsReadUpTo}
use Rattle.pa_trace.proofs.reading.read_trace_to.Given as goal

-- the head and the lines so far are read
abbrev pub invariant-loop-lines : goal.invariant-loop-lines
invariant-loop-lines l = IsReadUpTo l.known l.bytes l.lines.items l.reader

abbrev pub decreases-loop-lines : goal.decreases-loop-lines
decreases-loop-lines l = length l.reader.rest
