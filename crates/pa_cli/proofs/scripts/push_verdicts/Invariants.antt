use Rattle.std.proofs.Common.{◌≡◌, ◌++◌, take}
use Rattle.std.specs.List.{flat_map}
use Rattle.pa_cli.specs.VerdictsText.{verdict_line}
use Rattle.pa_cli.proofs.scripts.push_verdicts.Given as goal

abbrev pub invariant-loop-verdict : goal.invariant-loop-verdict
invariant-loop-verdict l = l.out ≡ l.fn.out ++ flat_map verdict_line (take l.verdict-index l.found)
