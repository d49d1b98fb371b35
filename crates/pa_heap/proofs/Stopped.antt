-- Ops that run out of memory: an allocation that asks a root, and a purge that purged the first partitions.
use Rattle.std.proofs.Common.{◌≡◌, ℕ, ◌+◌, ◌≤◌, [], max, sym, subst, add-one}
use Rattle.pa_buckets.specs.Classes.{IsClassIn}
use Rattle.pa_direct.specs.Shapes.{greatest_size}
use Rattle.pa_rules.specs.Sizes.{IsMapSize}
use Rattle.pa_rules.proofs.Versions.{has_no_class}
use Rattle.pa_rules.proofs.Asking.{class_of_size}
use Rattle.pa_op_specs.specs.Stocks.{StockValue, HasNoHandle, register_in, titles_in}
use Rattle.pa_thread_state.specs.Purging.{PurgesRoot}
use Rattle.pa_heap.specs.Stopping.{AsksRoot, PurgesFirst}

-- the list of the size's class is empty
pub class_asks : (reg p size class : ℕ) (s : StockValue) → HasNoHandle (register_in s.registers reg) → size ≤ greatest_size →
    IsClassIn s.caches.version (max size 1 + 8) class → titles_in s.caches p class ≡ [] → AsksRoot reg p size s
class_asks reg p size class s bare few of empty = record {
  bare = bare;
  small = few;
  empty = λ other is. subst (λ c. titles_in s.caches p c ≡ [])
      (class_of_size s.caches.version (max size 1 + 8) class other of is) empty;
}

-- the size has no class
pub map_asks : (reg p size : ℕ) (s : StockValue) → HasNoHandle (register_in s.registers reg) →
    IsMapSize s.caches.version size → AsksRoot reg p size s
map_asks reg p size s bare direct = record {
  bare = bare;
  small = direct.1;
  empty = λ class is. absurd (has_no_class s.caches.version size class direct is);
}

-- one partition more was purged
pub purges_one_more : (line n slots : ℕ) (s now next : StockValue) → PurgesFirst line n s now → PurgesRoot line n slots now next →
    PurgesFirst line (n + 1) s next
purges_one_more line n slots s now next first purges = subst (λ k. PurgesFirst line k s next) (sym (add-one n)) (now, slots, first, purges)
