use Rattle.std.proofs.Common.{◌≡◌, ◌+◌, ◌-◌, ◌*◌, ◌≤◌, length}
use Rattle.pa_rules.specs.Caches.{all_listed}
use Rattle.pa_op_specs.specs.Stocks.{listed_in}
use Rattle.pa_heap.proofs.delayed_purge.count_all.Given as goal

-- with the lists of the partitions that are left, the count is whole
abbrev pub invariant-loop-partition : goal.invariant-loop-partition
invariant-loop-partition g l = record {
  count : l.slots + all_listed (listed_in l.stock) l.partition (l.stock.partitions - l.partition)
      ≡ all_listed (listed_in l.stock) 0 l.stock.partitions + length l.queue.slots;
  few : l.slots ≤ 65536 + 10880 * l.partition;
}
