use Rattle.std.proofs.Common.{◌≡◌, length}
use Rattle.pa_test_root.proofs.root_plain.script.Given as goal

-- there is a line for each number before this one
abbrev pub invariant-loop-i : goal.invariant-loop-i
invariant-loop-i l = length l.script.items ≡ l.i
