use Rattle.std.proofs.Common.{◌≡◌, length}
use Rattle.pa_test_root.proofs.root_rows.row.Given as goal

-- those before this one are in
abbrev pub invariant-loop-i : goal.invariant-loop-i
invariant-loop-i l = length l.slots ≡ l.i
