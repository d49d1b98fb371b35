use Rattle.std.proofs.Common.{ℕ, ◌<◌, List, length, get_or}
use Rattle.pa_test_audit.proofs.audit.are_short_histories.Given as goal

abbrev pub invariant-loop-history : goal.invariant-loop-history
invariant-loop-history l = (k : ℕ) (d : List _) → k < l.history-index → length (get_or l.cells k d) < 1000
