use Rattle.std.proofs.Common.{◌≡◌, take}
use Rattle.pa_dense.proofs.run.histories_of.Given as goal

-- the histories so far are the first ones of all
abbrev pub invariant-loop-history : goal.invariant-loop-history
invariant-loop-history l = l.histories.items ≡ take l.history-index l.cells
