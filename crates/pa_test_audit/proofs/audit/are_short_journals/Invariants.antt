use Rattle.std.proofs.Common.{ℕ, ◌<◌, List, length, get_or}
use Rattle.pa_test_audit.proofs.audit.are_short_journals.Given as goal

abbrev pub invariant-loop-journal : goal.invariant-loop-journal
invariant-loop-journal l = (k : ℕ) (d : List _) → k < l.journal-index → length (get_or l.roots k d) < 1000
