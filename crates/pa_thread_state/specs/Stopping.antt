-- What is left of a worker's thread state after a call that ran out of memory.
use Rattle.std.specs.Prelude.{◌≡◌, ℕ, ◌+◌, ◌-◌, ◌*◌, ◌/◌, ◌<◌, ◌⊎◌, length, Some, Contains}
use Rattle.pa_slot.specs.declared.title.Title.{Title}
use Rattle.pa_slot.specs.declared.word.Step.{Step}
use Rattle.pa_slot.specs.Run.{IsReturning}
use Rattle.pa_buckets.specs.Bands.{limit_of}
use Rattle.pa_record.specs.declared.entry.Seen.{Seen}
use Rattle.pa_region.specs.declared.view.View.{View}
use Rattle.pa_region.specs.Views.{free_of}
use Rattle.pa_rules.specs.Sizes.{HasClass}
use Rattle.pa_cache.specs.Caches.{batch_after, rest_after}
use Rattle.pa_cells.specs.declared.handle.Handle.{Handle}
use Rattle.pa_op_specs.specs.Stocks.{StockRegister, StockValue, titles_in}
use Rattle.pa_op_specs.specs.Workers.{HasItsStake}
use Rattle.pa_thread_state.specs.Allocating.{BecomesList}
use Rattle.pa_thread_state.specs.Changes.{IsBack, LetsGo, NeedsRoot}
use Rattle.pa_thread_state.specs.Giving.{GivesBatches, TakesBack, with_titles}
use Rattle.pa_thread_state.specs.Homing.{KeepsNoList}
use Rattle.pa_thread_state.specs.Purging.{GivesLists, IsCleared}

-- The thread state is of the same thread, and has its stake.
pub record KeepsItsStake (before after : StockValue) : Type 0 where
  pub thread : after.thread ≡ before.thread
  pub stake : HasItsStake after

-- What was to go back to a root came back: nothing but the seat is another, and that has what it had.
pub record KeepsAll (before after : StockValue) : Type 0 where
  pub same : after ≡ record before { view = after.view }
  pub back : TakesBack before.view after.view

-- The root ran out of memory when a list's batch after its first `keep` titles was to go back. The batch was off the list by then,
-- and the seat has each of its titles free, on no list. The list has the others, and nothing else is another.
pub record RefusesBatch (p class keep : ℕ) (before after : StockValue) : Type 0 where
  pub between : StockValue
  pub off : BecomesList p class (rest_after keep (titles_in before.caches p class)) before between
  pub keeps : KeepsAll between after
  pub kept : (q c : ℕ) → titles_in after.caches q c
      ≡ with_titles p class (rest_after keep (titles_in before.caches p class)) (titles_in before.caches) q c
  pub free : (t : Title) → Contains (batch_after keep (titles_in before.caches p class)) t → 0 < free_of after.view t
  pub alone : (t : Title) → Contains (batch_after keep (titles_in before.caches p class)) t → (q c : ℕ) →
      Contains (titles_in after.caches q c) t → ⊥

-- Of the tail of a list the first `batches` batches went back, and the root refused the next one.
pub record StopsTail (line p class keep : ℕ) (before after : StockValue) : Type 0 where
  pub batches : ℕ
  pub more : keep + 16 * batches < length (titles_in before.caches p class)
  pub between : StockValue
  pub gave : GivesBatches line p class keep batches before between
  pub refused : RefusesBatch p class keep between after

-- Of a purge of partition p the lists of the classes before `classes` went back. Then the tail of that class's list stopped, or no list
-- has a title any more, and the root wasn't purged.
pub record StopsPartition (line p : ℕ) (before after : StockValue) : Type 0 where
  pub classes : ℕ
  pub between : StockValue
  pub gave : GivesLists line p classes before between
  pub stopped : (HasClass before.caches.version classes × StopsTail line p classes 0 between after) ⊎
      (IsCleared p between × (after ≡ between))

-- A slot that a step returned isn't where it belongs: its title is free in the seat and on no list. It was to go to its root alone,
-- and nothing else is another, or the tail of its list stopped, of which more than half the limit was to go back.
pub record IsLeftOver (line : ℕ) (h : Handle) (before after : StockValue) : Type 0 where
  pub back : IsBack h after
  pub stopped :
      (KeepsNoList h before × KeepsAll before after)
      ⊎ ((class : ℕ) × (h.class ≡ Some class) × (0 < limit_of class) ×
      StopsTail line h.partition class (limit_of class / 2 - 1) before after)

-- A reset or a free ran out of memory. Its step is made, and the register has `instead`, as if it hadn't. The step returned the slot,
-- whose list has no room or isn't there, so that it needs the root: nowhere else does memory run out. The slot is left over.
pub record StopsRelease (line : ℕ) (step : Step) (h : Handle) (reg : ℕ) (instead : StockRegister) (v : View)
    (before after : StockValue) : Type 0 where
  pub seen : Seen
  pub between : StockValue
  pub gone : LetsGo step h reg instead v seen before between
  pub last : IsReturning step seen.found.0
  pub root : NeedsRoot h between
  pub left : IsLeftOver line h between after
