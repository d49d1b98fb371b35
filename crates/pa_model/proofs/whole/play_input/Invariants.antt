use Rattle.std.proofs.Common.{length}
use Rattle.pa_trace.specs.Grammar.{last_version}
use Rattle.pa_player.specs.Plays.{IsPlayedUpTo}
use Rattle.pa_model.proofs.whole.play_input.Given as goal

-- some lines are read, and these were played
abbrev pub invariant-loop-player : goal.invariant-loop-player
invariant-loop-player l = IsPlayedUpTo last_version l.bytes l.reader l.player

abbrev pub decreases-loop-player : goal.decreases-loop-player
decreases-loop-player l = length l.reader.rest
