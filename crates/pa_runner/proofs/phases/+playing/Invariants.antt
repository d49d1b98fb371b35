use Rattle.std.proofs.Common.{◌+◌, ◌*◌, length}
use Rattle.pa_runner.proofs.phases.+playing.Given as goal

abbrev pub decreases-Playing::play_from : goal.decreases-Playing::play_from
decreases-Playing::play_from g l = 3 * length l.workers.now

abbrev pub decreases-Playing::play_beside : goal.decreases-Playing::play_beside
decreases-Playing::play_beside g l = 3 * length l.rest.now + 2

abbrev pub decreases-Playing::play_beside-behind : goal.decreases-Playing::play_beside-behind
decreases-Playing::play_beside-behind g l = 3 * length l.rest.now + 1
