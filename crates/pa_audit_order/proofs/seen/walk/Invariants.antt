use Rattle.std.proofs.Common.{◌≡◌}
use Rattle.pa_audit_records.specs.ByKeys.{value_at}
use Rattle.pa_rules.specs.Cells.{history_at}
use Rattle.pa_audit_order.proofs.Treading.{IsWalked}
use Rattle.pa_audit_order.proofs.seen.walk.Given as goal

abbrev pub invariant-loop-record : goal.invariant-loop-record
invariant-loop-record l = record {
  walked : IsWalked (history_at l.cells) l.records l.thread l.record-index l.cut.marked.items l.cut.stack.items l.cut.floor
      (value_at l.cut.left);
  at : l.at ≡ l.record-index;
}
