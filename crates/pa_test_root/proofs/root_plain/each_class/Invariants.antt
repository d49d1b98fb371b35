use Rattle.std.proofs.Common.{◌≡◌, ◌*◌, length}
use Rattle.pa_test_root.proofs.root_plain.each_class.Given as goal

-- there are two lines for each class before this one
abbrev pub invariant-loop-number : goal.invariant-loop-number
invariant-loop-number l = length l.script.items ≡ 2 * l.number
