use Rattle.std.proofs.Common.{◌≡◌, take}
use Rattle.pa_dense.proofs.journal.DenseJournal.to_journal.Given as goal

-- the entries so far
abbrev pub invariant-loop-entry : goal.invariant-loop-entry
invariant-loop-entry l = l.entries.items ≡ take l.entry-index l.self
