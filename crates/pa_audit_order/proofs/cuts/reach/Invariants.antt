use Rattle.std.proofs.Common.{ℕ, ◌+◌, ◌-◌, ◌*◌, length}
use Rattle.pa_audit_records.specs.ByKeys.{value_at}
use Rattle.pa_rules.specs.Cells.{history_at}
use Rattle.pa_audit_order.specs.Cuts.{IsAheadAt, IsNear, IsTakenUp, IsGrown, unmarked}
use Rattle.pa_audit_order.proofs.cuts.reach.Given as goal

abbrev pub invariant-loop-next : goal.invariant-loop-next
invariant-loop-next l = record {
  cut :
      IsGrown (history_at l.cells) l.records (IsAheadAt (history_at l.cells) l.records l.at)
      (length l.records) l.cut.marked.items l.cut.stack.items l.cut.floor (value_at l.cut.left);
  near : (j : ℕ) → IsNear (history_at l.cells) l.records j l.at → IsTakenUp l.cut.marked.items l.cut.stack.items j;
}

abbrev pub decreases-loop-next : goal.decreases-loop-next
decreases-loop-next l = 2 * unmarked l.cut.marked.items + length l.cut.stack.items + (length l.records - l.cut.floor)
