use Rattle.std.proofs.Common.{length}
use Rattle.pa_resize.specs.Playing.{IsInputPlayedTo}
use Rattle.pa_resize.proofs.whole.expand_input.Given as goal

-- some lines are read, and these were played
abbrev pub invariant-loop-player : goal.invariant-loop-player
invariant-loop-player l = IsInputPlayedTo l.bytes l.reader l.player

abbrev pub decreases-loop-player : goal.decreases-loop-player
decreases-loop-player l = length l.reader.rest
