use Rattle.std.proofs.Common.{◌≡◌, take}
use Rattle.pa_dense.proofs.run.history_of.Given as goal

-- the exchanges so far are the first ones of all
abbrev pub invariant-loop-entry : goal.invariant-loop-entry
invariant-loop-entry l = l.history ≡ take l.entry-index l.entries
