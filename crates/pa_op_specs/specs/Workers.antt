-- A worker, as contracts see it, and what is always true of it.
use Rattle.std.specs.Prelude.{◌≡◌, ℕ, ◌+◌, ◌<◌, ◌≤◌, List, [], Bool, false, length}
use Rattle.std.specs.List.{sum_by}
use Rattle.pa_record.specs.declared.entry.Entry.{Entry}
use Rattle.pa_region.specs.declared.view.View.{View}
use Rattle.pa_region.specs.Views.{stake_of}
use Rattle.pa_region.specs.Takes.{log_of}
use Rattle.pa_region.specs.Totals.{added_as, owes_as}
use Rattle.pa_totals.specs.declared.owed.Owed.{Owed}
use Rattle.pa_totals.specs.Settled.{owed_in, none_owed}
use Rattle.pa_op_specs.specs.declared.counts.Count.{Count}
use Rattle.pa_op_specs.specs.Counts.{AreOfSteps, IsOwedBySteps, counted_in, no_count}
use Rattle.pa_op_specs.specs.Stocks.{StockValue, IsStock, IsNewStock}

-- A worker: its thread state, its records so far, for how many in all there is room, whether an op ran out of memory, what it counted
-- of its steps, for each of 4 partitions, and the bytes of those steps that it owes to the totals words of each partition.
pub record WorkerValue : Type 0 where
  pub stock : StockValue
  pub records : List Entry
  pub room : ℕ
  pub stopped : Bool
  pub counts : List Count
  pub owed : List Owed

-- the thread state's seat has the stake of its thread
abbrev pub HasItsStake : StockValue → Type 0
HasItsStake s = 0 < stake_of s.view s.thread

-- While a worker has its stake, of each kind its log's steps owe at least what its log added and what is still owed.
abbrev pub IsCovered : List Owed → StockValue → Type 0
IsCovered owed s =
    HasItsStake s → (q : ℕ) →
    sum_by (added_as q) (log_of s.thread s.view) + owed_in q owed ≤ sum_by (owes_as q) (log_of s.thread s.view)

-- What is always true of a worker. There is a counted step in its budget for each record to come. It counted at most one step for
-- each record. These steps owe what is owed, and that may be added to the totals words.
pub record IsWorker (w : WorkerValue) : Type 0 where
  pub stock : IsStock w.stock
  pub budget : w.room ≤ length w.records + w.stock.view.budget
  pub counts : AreOfSteps (length w.records) w.counts
  pub owed : IsOwedBySteps (length w.records) w.owed
  pub covered : IsCovered w.owed w.stock

-- the worker can play an op: it isn't stopped, it has its stake, and there is room for one more record
pub record CanPlayOp (w : WorkerValue) : Type 0 where
  pub going : w.stopped ≡ false
  pub stake : HasItsStake w.stock
  pub room : length w.records < w.room

-- After an op that didn't run out of memory the worker isn't stopped, has its stake and one more record,
-- and room for as many in all as before.
pub record KeepsOn (before after : WorkerValue) : Type 0 where
  pub going : after.stopped ≡ false
  pub stake : HasItsStake after.stock
  pub count : length after.records ≡ length before.records + 1
  pub room : after.room ≡ before.room

-- the worker with another view of its seat
abbrev pub worker_with_view : View → WorkerValue → WorkerValue
worker_with_view v w = record w { stock = record w.stock { view = v } }

-- a worker that has played nothing
pub record IsNewWorker (thread partitions plain_from version lines : ℕ) (v : View) (w : WorkerValue) : Type 0 where
  pub stock : IsNewStock thread partitions plain_from version v w.stock
  pub records : w.records ≡ []
  pub room : w.room ≡ lines
  pub going : w.stopped ≡ false
  pub counts : (p : ℕ) → counted_in w.counts p ≡ no_count
  pub owed : w.owed ≡ none_owed
