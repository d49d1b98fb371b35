use Rattle.std.proofs.Common.{◌≡◌, take}
use Rattle.pa_dense.proofs.run.dense_of.Given as goal

-- the journals so far are the first ones of all
abbrev pub invariant-loop-journal : goal.invariant-loop-journal
invariant-loop-journal l = l.dense.items ≡ take l.journal-index l.journals
