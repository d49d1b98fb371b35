use Rattle.std.proofs.Common.{◌+◌}
use Rattle.pa_test_root.specs.RootScripts.{IsPlayed}
use Rattle.pa_test_root.proofs.root_plain.give_all.Given as goal

-- a step was made for each of those before this one
abbrev pub invariant-loop-i : goal.invariant-loop-i
invariant-loop-i l = IsPlayed (l.steps + l.i) l.pool.entries l.placement
