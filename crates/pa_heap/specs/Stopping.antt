-- When an allocation may run out of memory, and what is left of a worker's thread state after a reset, a free or a purge that did.
use Rattle.std.specs.Prelude.{◌≡◌, ℕ, zero, suc, ◌+◌, ◌<◌, ◌≤◌, [], max}
use Rattle.pa_slot.specs.declared.word.Step.TheVariants as steps
use Rattle.pa_buckets.specs.Classes.{IsClassIn}
use Rattle.pa_direct.specs.Shapes.{greatest_size}
use Rattle.pa_quarantine.specs.Filling.{poisoned}
use Rattle.pa_cells.specs.declared.handle.Handle.{Handle}
use Rattle.pa_rules.specs.declared.register.Register.TheVariants as registers
use Rattle.pa_op_specs.specs.Stocks.{HasNoHandle, StockValue, register_in, titles_in}
use Rattle.pa_thread_state.specs.Purging.{PurgesRoot}
use Rattle.pa_thread_state.specs.Stopping.{StopsPartition, StopsRelease}

-- An allocation of this size in partition p asks the root: the register has no handle, the size isn't too large, and if it has a
-- class in the worker's version, the list of that is empty.
pub record AsksRoot (reg p size : ℕ) (s : StockValue) : Type 0 where
  pub bare : HasNoHandle (register_in s.registers reg)
  pub small : size ≤ greatest_size
  pub empty : (class : ℕ) → IsClassIn s.caches.version (max size 1 + 8) class → titles_in s.caches p class ≡ []

-- A reset stopped: the register had a `raw_ptr`, and its release stopped.
abbrev pub StopsReset : (line reg : ℕ) → (before after : StockValue) → Type 0
StopsReset line reg before after =
    (h : Handle) × (register_in before.registers reg ≡ registers.Ref h)
    × StopsRelease line steps.Reset h reg registers.Cleared before.view before after

-- A free stopped: the register owned a slot, which was poisoned, and its release stopped.
abbrev pub StopsFree : (line reg : ℕ) → (before after : StockValue) → Type 0
StopsFree line reg before after =
    (h : Handle) × (register_in before.registers reg ≡ registers.Own h)
    × StopsRelease line steps.Free h reg registers.Freed (poisoned h.title before.view) before after

-- the first `partitions` partitions were purged whole, one after the other
abbrev pub PurgesFirst : (line partitions : ℕ) → (before after : StockValue) → Type 0
PurgesFirst line zero before after = after ≡ before
PurgesFirst line (suc n) before after =
    (between : StockValue) × (slots : ℕ) × PurgesFirst line n before between × PurgesRoot line n slots between after

-- A purge stopped in a partition of the run. The partitions before it were purged whole.
pub record StopsPurge (line : ℕ) (before after : StockValue) : Type 0 where
  pub partition : ℕ
  pub among : partition < before.partitions
  pub between : StockValue
  pub purged : PurgesFirst line partition before between
  pub stopped : StopsPartition line partition between after
