use Rattle.std.specs.Prelude.{All}
use Rattle.pa_spans.specs.Lists.{IsOutside}
use Rattle.pa_test_spans.proofs.table.new_table.Given as goal

abbrev pub invariant-loop-number : goal.invariant-loop-number
invariant-loop-number l = All IsOutside l.spans.items
