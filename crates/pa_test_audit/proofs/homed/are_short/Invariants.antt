use Rattle.std.proofs.Common.{ℕ, ◌<◌, length}
use Rattle.pa_rules.specs.Roots.{journal_at}
use Rattle.pa_test_audit.proofs.homed.are_short.Given as goal

abbrev pub invariant-loop-journal : goal.invariant-loop-journal
invariant-loop-journal l = (p : ℕ) → p < l.journal-index → length (journal_at l.roots p) < 4294967296
