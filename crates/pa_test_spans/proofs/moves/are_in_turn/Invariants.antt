use Rattle.std.proofs.Common.{◌*◌}
use Rattle.pa_test_spans.specs.Table.{IsTableKept}
use Rattle.pa_test_spans.proofs.moves.are_in_turn.Given as goal

abbrev pub invariant-loop-done : goal.invariant-loop-done
invariant-loop-done l = IsTableKept l.lists l.table.spans.items (2 * l.done)
