-- The workers of all threads in a phase: those that can play, have played, have handed their stake over or got it back.
use Rattle.std.specs.Prelude.{◌≡◌, ℕ, ◌+◌, ◌<◌, ◌≤◌, List, [], true, false, length, slice_index_or}
use Rattle.pa_region.specs.declared.view.View.{View}
use Rattle.pa_region.specs.Start.{first_view}
use Rattle.pa_region.specs.Views.{stake_of}
use Rattle.pa_region.specs.Hands.{given_after, united}
use Rattle.pa_region.specs.Lending.{stake_parcel}
use Rattle.pa_rules.specs.Caches.{SameLists}
use Rattle.pa_totals.specs.Settled.{none_owed}
use Rattle.pa_op_specs.specs.Stocks.{listed_in}
use Rattle.pa_op_specs.specs.Workers.{WorkerValue, HasItsStake, worker_with_view}
use Rattle.pa_execution.specs.Gathering.{HasHeardSome, HasAnswered, told_worker}
use Rattle.pa_runner.specs.declared.thread_lines.LineOp.{LineOp}
use Rattle.pa_runner.specs.Playing.{CanPlay, PlaysLines, IsPlayed}

-- the worker to use if there is none: it has stopped and has nothing
abbrev pub no_worker : WorkerValue
no_worker = record {
  stock = record {
    thread = 0;
    partitions = 0;
    plain_from = 0;
    view = first_view 0 0;
    registers = [];
    caches = record { version = 1; lists = [] };
  };
  records = [];
  room = 0;
  stopped = true;
  counts = [];
  owed = none_owed;
}

-- the worker at place k, or one that has stopped and has nothing if there is none
abbrev pub worker_in : List WorkerValue → ℕ → WorkerValue
worker_in workers k = slice_index_or workers k no_worker

-- the queue of lines at place k, empty if there is none
abbrev pub queue_in : List (List LineOp) → ℕ → List LineOp
queue_in queues k = slice_index_or queues k []

-- The workers from thread `first` on, with the queues of these threads: each worker's thread is its place from there, it can play its
-- lines, and it owes nothing to the totals words.
pub record AreReadyFrom (first : ℕ) (queues : List (List LineOp)) (workers : List WorkerValue) : Type 0 where
  pub count : length queues ≡ length workers
  pub thread : (k : ℕ) → k < length workers → (worker_in workers k).stock.thread ≡ first + k
  pub each : (k : ℕ) → k < length workers → CanPlay (queue_in queues k) (worker_in workers k)
  pub settled : (k : ℕ) → k < length workers → (worker_in workers k).owed ≡ none_owed

-- all workers, from thread 0 on, can play the lines of their queues, and owe nothing to the totals words
abbrev pub AreReady : List (List LineOp) → List WorkerValue → Type 0
AreReady queues workers = AreReadyFrom 0 queues workers

-- all workers are back from their lines
abbrev pub ArePlayed : List (List LineOp) → (before after : List WorkerValue) → Type 0
ArePlayed queues before after = (k : ℕ) → k < length before → IsPlayed (queue_in queues k) (worker_in before k) (worker_in after k)

-- no worker ran out of memory
abbrev pub AreGoing : List WorkerValue → Type 0
AreGoing workers = (k : ℕ) → k < length workers → (worker_in workers k).stopped ≡ false

-- each worker has its thread's stake
pub record HaveStakes (workers : List WorkerValue) : Type 0 where
  pub thread : (k : ℕ) → k < length workers → (worker_in workers k).stock.thread ≡ k
  pub each : (k : ℕ) → k < length workers → HasItsStake (worker_in workers k).stock

-- each worker has handed its stake over, has none, and owes nothing to the totals words
pub record HaveNone (workers : List WorkerValue) : Type 0 where
  pub thread : (k : ℕ) → k < length workers → (worker_in workers k).stock.thread ≡ k
  pub each : (k : ℕ) → k < length workers → (j : ℕ) → stake_of (worker_in workers k).stock.view j ≡ 0
  pub settled : (k : ℕ) → k < length workers → (worker_in workers k).owed ≡ none_owed

-- the first `count` workers handed their stakes over, and the others are as they were
pub record HaveTold (count : ℕ) (before after : List WorkerValue) : Type 0 where
  pub told : (k : ℕ) → k < count → worker_in after k ≡ told_worker k (worker_in before k)
  pub none : (k : ℕ) → k < count → (j : ℕ) → stake_of (worker_in after k).stock.view j ≡ 0
  pub others : (k : ℕ) → count ≤ k → worker_in after k ≡ worker_in before k

-- The worker of thread k got its stake back from the main seat, which was `whole` at first and had served the workers before.
pub record HeardFrom (threads k : ℕ) (whole : View) (before after : WorkerValue) : Type 0 where
  pub seat : View
  pub answered : HasAnswered threads k whole seat
  pub heard : after ≡ worker_with_view (united before.stock.view (given_after (stake_parcel k) seat)) before
  pub lists : SameLists (listed_in after.stock) (listed_in before.stock)

-- the first `count` workers got their stakes back from the main seat, and the others are as they were
pub record HaveHeard (threads count : ℕ) (whole : View) (before after : List WorkerValue) : Type 0 where
  pub heard : (k : ℕ) → k < count → HeardFrom threads k whole (worker_in before k) (worker_in after k)
  pub others : (k : ℕ) → count ≤ k → worker_in after k ≡ worker_in before k

-- All workers are back from a phase with these lines. Each was as `ends` then, whether it played its own or is stopped. All handed
-- their stake to the main seat, which was `first` before.
pub record HaveReturned (queues : List (List LineOp)) (before after : List WorkerValue) (first seat : View) : Type 0 where
  pub ends : List WorkerValue
  pub count : length ends ≡ length before
  pub played : ArePlayed queues before ends
  pub heard : HasHeardSome (length before) (length before) (worker_in ends) first seat
  pub told : HaveTold (length before) ends after

-- A phase with these lines passed: each worker played its own and was as `ends` then, owing nothing to the totals words, and all
-- handed their stake to the main seat, which was `first` before.
pub record HasPassed (queues : List (List LineOp)) (before after : List WorkerValue) (first seat : View) : Type 0 where
  pub ends : List WorkerValue
  pub count : length ends ≡ length before
  pub played : (k : ℕ) → k < length before → PlaysLines (queue_in queues k) (worker_in before k) (worker_in ends k)
  pub settled : (k : ℕ) → k < length before → (worker_in ends k).owed ≡ none_owed
  pub heard : HasHeardSome (length before) (length before) (worker_in ends) first seat
  pub told : HaveTold (length before) ends after
