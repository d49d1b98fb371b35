use Rattle.std.proofs.Common.{◌≡◌, map}
use Rattle.pa_record.specs.declared.pool.PoolEntry.{PoolEntry}
use Rattle.pa_audit_heap.proofs.Ordering.{HasOrder}
use Rattle.pa_audit_heap.proofs.pool.come_in_order.Given as goal

abbrev pub invariant-loop-entry : goal.invariant-loop-entry
invariant-loop-entry l = record {
  at : l.at ≡ l.entry-index;
  order : HasOrder l.records (map (λ (e : PoolEntry). e.line) l.pools) l.entry-index l.order;
}
