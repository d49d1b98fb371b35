use Rattle.std.proofs.Common.{length}
use Rattle.pa_run_reader.proofs.ReadSoFar.{IsReadTo}
use Rattle.pa_run_reader.proofs.reading.read_items.Given as goal

-- the lines so far are read, and the bad line of the rest is that of all
abbrev pub invariant-loop-item : goal.invariant-loop-item
invariant-loop-item l = IsReadTo l.last l.n l.draft l.rest l.bytes

abbrev pub decreases-loop-item : goal.decreases-loop-item
decreases-loop-item l = length l.rest
