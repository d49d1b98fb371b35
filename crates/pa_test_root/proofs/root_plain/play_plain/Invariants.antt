use Rattle.std.proofs.Common.{◌*◌}
use Rattle.pa_test_root.specs.RootScripts.{IsPlayed}
use Rattle.pa_test_root.proofs.root_plain.play_plain.Given as goal

-- each call before this one was at most 17 steps
abbrev pub invariant-loop-i : goal.invariant-loop-i
invariant-loop-i l = IsPlayed (17 * l.i) l.pool.entries l.placement
