-- What is left of a worker after an op that ran out of memory, for each op.
use Rattle.std.specs.Prelude.{◌≡◌, ℕ, true, length}
use Rattle.pa_trace.specs.declared.script.Op.{Op}
use Rattle.pa_trace.specs.declared.script.Op.TheVariants as ops
use Rattle.pa_totals.specs.Settled.{none_owed}
use Rattle.pa_op_specs.specs.Stocks.{StockValue}
use Rattle.pa_op_specs.specs.Workers.{WorkerValue}
use Rattle.pa_thread_state.specs.Exchanging.{IsUndone}
use Rattle.pa_heap.specs.Stopping.{AsksRoot, StopsReset, StopsFree, StopsPurge}

-- the worker stopped with this thread state: it has no room for more records, and owes nothing to the totals words
abbrev pub stopped_with : StockValue → WorkerValue → WorkerValue
stopped_with s w = record w { stock = s; room = length w.records; stopped = true; owed = none_owed }

-- The op on this line ran out of memory, so it is one that may. But for the thread state the stopped worker is as before, with its
-- records and counts; and its thread state is what that op leaves.
abbrev pub StopsOp : (line : ℕ) → Op → (before after : WorkerValue) → Type 0
StopsOp line (ops.Alloc reg p size) w after = AsksRoot reg p size w.stock × (after ≡ stopped_with w.stock w)
StopsOp line (ops.Copy from to) w after = ⊥
StopsOp line (ops.Reset reg) w after = StopsReset line reg w.stock after.stock × (after ≡ stopped_with after.stock w)
StopsOp line (ops.Free reg) w after = StopsFree line reg w.stock after.stock × (after ≡ stopped_with after.stock w)
StopsOp line (ops.Write reg value) w after = ⊥
StopsOp line (ops.Read reg place) w after = ⊥
StopsOp line (ops.Swap cell reg) w after = IsUndone w.stock after.stock × (after ≡ stopped_with after.stock w)
StopsOp line ops.Purge w after = StopsPurge line w.stock after.stock × (after ≡ stopped_with after.stock w)
