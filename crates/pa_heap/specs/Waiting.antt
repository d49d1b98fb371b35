-- A worker whose returned slots wait in a queue before its lists.
use Rattle.std.specs.Prelude.{◌≡◌, ◌≢◌, ℕ, List, map, Some, Contains, AllPairs}
use Rattle.pa_trace.specs.declared.script.Op.{Op}
use Rattle.pa_record.specs.declared.entry.Answer.{Answer}
use Rattle.pa_record.specs.declared.numbered.Numbered.{Numbered}
use Rattle.pa_rules.specs.Sizes.{HasClass}
use Rattle.pa_delay.specs.Delayed.{Waiting, DelayedRow}
use Rattle.pa_delay.specs.Queue.{QueueList}
use Rattle.pa_logs.specs.Told.{ToldRecord}
use Rattle.pa_cells.specs.declared.handle.Handle.{Handle}
use Rattle.pa_cells.specs.Handles.{HasSeenMade}
use Rattle.pa_root.specs.Handing.{numbered_by}
use Rattle.pa_op_specs.specs.Stocks.{StockValue, listed_in, rules_at}
use Rattle.pa_op_specs.specs.Workers.{WorkerValue}
use Rattle.pa_op_specs.specs.Outcomes.{Outcome, FitsRun}
use Rattle.pa_op_specs.specs.Owing.{AddsNothing}
use Rattle.pa_op_specs.specs.Plays.{IsApart, Does, PlaysOne}

-- the slots of a queue, as the rules have them: each at the number that the worker's seat has seen
abbrev pub waiting_in : StockValue → List Handle → List Numbered
waiting_in s hs = numbered_by s.view (map (λ (h : Handle). h.title) hs)

-- a worker's lists and its queue, as the rules have them
abbrev pub lists_and_queue : StockValue → List Handle → Waiting
lists_and_queue s hs = record { lists = listed_in s; queue = waiting_in s hs }

-- A handle whose slot can wait: the slot is of a class of the run's version, the seat has seen how it was made, and has it free, and
-- it is on no list.
pub record CanWait (h : Handle) (s : StockValue) : Type 0 where
  pub class : ℕ
  pub class_is : h.class ≡ Some class
  pub real : HasClass s.caches.version class
  pub apart : IsApart h.title s
  pub made : HasSeenMade h s.view

-- each slot of the queue can wait, and none is there twice
pub record HoldsQueue (hs : List Handle) (s : StockValue) : Type 0 where
  pub each : (h : Handle) → Contains hs h → CanWait h s
  pub differ : AllPairs (λ (g h : Handle). g.title ≢ h.title) hs

-- In every run that fits, what the record entered is what its thread's lists and queue require, with at most so many bytes in the
-- queue, and leads to the next lists and the next queue.
abbrev pub LeadsDelayed : ℕ → (before : StockValue) → List Handle → (after : StockValue) → List Handle → ToldRecord → Type 0
LeadsDelayed bytes before hs after rest x =
    (o : Outcome) → FitsRun o before.partitions after.view x →
    DelayedRow bytes o.partitions o.roots x.played x.played.answer (lists_and_queue before hs) (lists_and_queue after rest)

-- What an op on this line does if returned slots wait in a queue, with this answer, in whatever phase the line is.
abbrev pub DoesDelayed : (line : ℕ) → Op → Answer → (before : StockValue) → QueueList → (after : StockValue) → QueueList → Type 0
DoesDelayed line op answer before queue after rest =
    (phase : ℕ) → (x : ToldRecord)
    × (x.played ≡ record { line = line; thread = before.thread; phase = phase; rules = rules_at before; op = op; answer = answer })
    × Does before after x × AddsNothing x.stretch × LeadsDelayed queue.limit before queue.slots after rest.slots x

-- A worker with a queue plays an op on this line, with this answer, in whatever phase the line is, and its record leads lists and queue.
abbrev pub PlaysDelayed : (line : ℕ) → Op → Answer → (before : WorkerValue) → QueueList → (after : WorkerValue) → QueueList → Type 0
PlaysDelayed line op answer before queue after rest =
    (phase : ℕ) → (x : ToldRecord)
    × (x.played ≡ record {
      line = line;
      thread = before.stock.thread;
      phase = phase;
      rules = rules_at before.stock;
      op = op;
      answer = answer;
    })
    × PlaysOne before after x × LeadsDelayed queue.limit before.stock queue.slots after.stock rest.slots x
