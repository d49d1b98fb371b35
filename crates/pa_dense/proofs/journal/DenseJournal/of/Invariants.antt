use Rattle.std.proofs.Common.{◌≡◌, take}
use Rattle.pa_dense.proofs.journal.DenseJournal.of.Given as goal

-- the entries so far
abbrev pub invariant-loop-entry : goal.invariant-loop-entry
invariant-loop-entry l = l.dense ≡ take l.entry-index l.journal
