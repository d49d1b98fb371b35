use Rattle.std.proofs.Common.{◌+◌, ◌*◌, ap, arith}
use Rattle.pa_test_spans.specs.declared.table.Table.{Table}
use Rattle.pa_test_spans.proofs.Counting.{kept_more}
use Rattle.pa_test_spans.proofs.moves.are_in_turn.Goals as goal
use Rattle.pa_test_spans.proofs.moves.are_in_turn.Goals.{in-Some+else-oldest-last_empty+in_ok-to_front-2, in_default}

pub loop-done-preserved : goal.loop-done-preserved
loop-done-preserved c = elim c.match-oldest.branch [
  | in-Some+else-oldest-last_empty+in_ok-to_front-2 w ↦
      kept_more w.enter.new.lists c.match-oldest.lists w.enter.new.table.spans.items c.match-oldest.table.spans.items
      (2 * c.loop-done.done + 1 + 1)
      (2 * (c.loop-done.done + 1)) w.lists-is (ap (λ (t : Table). t.spans.items) w.table-is) (omega arith) w.enter.ensures.kept
  | in_default w ↦
      kept_more c.enter-oldest.new.lists c.match-oldest.lists c.enter-oldest.new.table.spans.items c.match-oldest.table.spans.items
      (2 * c.loop-done.done + 1) (2 * (c.loop-done.done + 1)) w.lists-is (ap (λ (t : Table). t.spans.items) w.table-is)
      (omega arith) c.enter-oldest.ensures.kept
]
