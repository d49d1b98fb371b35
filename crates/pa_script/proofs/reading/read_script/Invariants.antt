use Rattle.std.proofs.Common.{length}
use Rattle.pa_script.specs.Unread.{IsScriptReadUpTo}
use Rattle.pa_script.proofs.reading.read_script.Given as goal

-- the head and the lines so far are read
abbrev pub invariant-loop-lines : goal.invariant-loop-lines
invariant-loop-lines l = IsScriptReadUpTo l.bytes l.lines.items l.reader

abbrev pub decreases-loop-lines : goal.decreases-loop-lines
decreases-loop-lines l = length l.reader.rest
