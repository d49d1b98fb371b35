-- How a delayed run goes, line by line: what waits in each thread's queue.
use Rattle.std.specs.Prelude.{◌≡◌, ℕ, ◌+◌, ◌<◌, ◌≤◌, List, [], ◌∷◌, length}
use Rattle.pa_buckets.specs.Limits.{class_count}
use Rattle.pa_trace.specs.declared.script.Trace.{Trace}
use Rattle.pa_record.specs.declared.report.Tally.{Tally}
use Rattle.pa_rules.specs.Caches.{listed_slots}
use Rattle.pa_rules.specs.Report.{listed_bytes}
use Rattle.pa_cells.specs.declared.handle.Handle.{Handle}
use Rattle.pa_logs.specs.Told.{ToldRecord}
use Rattle.pa_delay.specs.Queue.{queued_slots, queued_bytes}
use Rattle.pa_op_specs.specs.Stocks.{listed_in}
use Rattle.pa_op_specs.specs.Workers.{WorkerValue}
use Rattle.pa_heap.specs.Waiting.{waiting_in, HoldsQueue, LeadsDelayed}
use Rattle.pa_execution.specs.Courses.{Course}
use Rattle.pa_execution.specs.Lines.{sum_over}

-- How the queues go in a delayed run with this course, up to a turn. `waiting n k` is the queue of thread k at the end of turn n.
--   first: at the end of the head's turn all queues are empty
--   holds: the worker of the thread has each slot of its queue free and on no list
--   hears: a queue's slots are at the same numbers when its worker begins a turn
--   stays: in a turn in which its thread plays nothing a queue stays
--   leads: a record of the thread leads its lists and its queue
pub record IsDelayedCourse (bytes : ℕ) (t : Trace) (turns : ℕ) (c : Course) (waiting : ℕ → ℕ → List Handle) : Type 0 where
  pub first : (k : ℕ) → k < t.threads → waiting 1 k ≡ []
  pub holds : (n k : ℕ) → 1 ≤ n → n ≤ turns → k < t.threads → HoldsQueue (waiting n k) (c.ends n k).stock
  pub hears : (n k : ℕ) → 1 ≤ n → n < turns → k < t.threads →
      waiting_in (c.starts (n + 1) k).stock (waiting n k) ≡ waiting_in (c.ends n k).stock (waiting n k)
  pub stays : (n k : ℕ) → 1 ≤ n → n < turns → k < t.threads → c.plays (n + 1) k ≡ [] → waiting (n + 1) k ≡ waiting n k
  pub leads : (n k : ℕ) (x : ToldRecord) → 1 ≤ n → n < turns → k < t.threads → c.plays (n + 1) k ≡ x ∷ [] →
      LeadsDelayed bytes (c.starts (n + 1) k).stock (waiting n k) (c.ends (n + 1) k).stock (waiting (n + 1) k) x

-- The tally is what the lists and the queues of these workers have of partition p.
pub record IsCachedWith (p threads : ℕ) (workers : ℕ → WorkerValue) (queues : ℕ → List Handle) (tally : Tally) : Type 0 where
  pub slots : tally.slots ≡ sum_over (λ k. listed_slots (listed_in (workers k).stock p) 0 class_count + queued_slots p (queues k)) threads
  pub bytes : tally.bytes
      ≡ sum_over (λ k.
      listed_bytes (λ class. length (listed_in (workers k).stock p class)) 0 class_count + queued_bytes p (queues k)) threads
