use Rattle.std.proofs.Common.{◌≡◌, ◌*◌, ◌≤◌}
use Rattle.pa_heap.specs.Stopping.{PurgesFirst}
use Rattle.pa_heap.proofs.Purging.{Purging}
use Rattle.pa_heap.proofs.purges.purge.Given as goal

-- this many partitions were purged
abbrev pub invariant-loop-partition : goal.invariant-loop-partition
invariant-loop-partition g l = record {
  some : Purging l.line l.partition l.slots l.initial.stock l.stock;
  few : l.slots ≤ 10880 * l.partition;
  first : PurgesFirst l.line l.partition l.initial.stock l.stock;
  budget : l.stock.view.budget ≡ l.initial.stock.view.budget;
}
