-- Laws of delayed runs.
use Rattle.std.specs.Prelude.{◌≡◌, ◌≢◌, ℕ, ◌<◌, ◌≤◌, ◌⊎◌, List, [], ◌∷◌, ◌++◌, Contains, All, AllPairs}
use Rattle.pa_slot.specs.declared.word.SlotName.{SlotName}
use Rattle.pa_slot.specs.Run.{Slots, IsFree}
use Rattle.pa_buckets.specs.Limits.{class_count}
use Rattle.pa_trace.specs.declared.script.Trace.{Trace}
use Rattle.pa_record.specs.declared.pool.PoolEntry.{PoolEntry}
use Rattle.pa_record.specs.declared.run.Run.{Run}
use Rattle.pa_record.specs.declared.entry.Seen.{Seen}
use Rattle.pa_record.specs.declared.entry.Answer.TheVariants.{Made}
use Rattle.pa_record.specs.declared.history.CellEntry.{CellEntry}
use Rattle.pa_record.specs.declared.pool.PoolEntry.{PoolEntry}
use Rattle.pa_record.specs.declared.numbered.Numbered.{Numbered}
use Rattle.pa_record.specs.Root.{new_root, root_replayed, IsJournal}
use Rattle.pa_record.specs.Laws.{IsNameOut}
use Rattle.pa_rules.specs.declared.played.Played.{Played}
use Rattle.pa_rules.specs.Played.{marks_of}
use Rattle.pa_rules.specs.Told.{Told, records_of}
use Rattle.pa_rules.specs.Roots.{Journals, AreRoots, IsPoolOf}
use Rattle.pa_rules.specs.Caches.{Cache, Caches, no_caches}
use Rattle.pa_rules.specs.Report.{HasWord}
use Rattle.pa_rules.specs.Rising.{RiseByLine}
use Rattle.pa_rules.specs.FileOrder.{IsInFileOrder}
use Rattle.pa_rules.specs.Legal.{IsFileRun}
use Rattle.pa_legal.specs.Flows.{SlotsFlow}
use Rattle.pa_legal.specs.Flows.{SlotsFlow}
use Rattle.pa_delay.specs.Delayed.{Queues, no_queues, HaveBytes, DelayedTo}
use Rattle.pa_delay.specs.Runs.{AreDelayed, IsDelayedTold, IsDelayedRun}

-- the slots of a queue have at most this many bytes
abbrev pub HasAtMost : ℕ → Journals → List Numbered → Type 0
HasAtMost bytes roots queue = (n : ℕ) × HaveBytes roots queue n × (n ≤ bytes)

-- the slots of each thread's queue have at most this many bytes
abbrev pub HaveAtMost : ℕ → Journals → Queues → Type 0
HaveAtMost bytes roots waiting = (t : ℕ) → HasAtMost bytes roots (waiting t)

-- after each record each queue has at most as many bytes as the limit says
abbrev pub QueuesFit : Type 0
QueuesFit =
    (bytes partitions : ℕ) (roots : Journals) (xs ys : List Played) → AreDelayed bytes partitions roots (xs ++ ys)
    → (all : Caches) × (waiting : Queues) × DelayedTo bytes partitions roots no_caches no_queues xs all waiting
    × HaveAtMost bytes roots waiting

-- a delayed run for 0 bytes is the run of the trace in the order of its lines
abbrev pub NoBytesNoDelay : Type 0
NoBytesNoDelay = (t : Trace) (r : Run) → IsDelayedRun 0 t r → IsFileRun t r

-- the rows of a delayed run give how slots flow, as the caches of a run without queues do, if each journal is one of a root
abbrev pub DelayedFlow : Type 0
DelayedFlow =
    (bytes partitions : ℕ) (ps : List Played) (pools : List PoolEntry) (roots : Journals) → ((p : ℕ) → IsJournal pools (roots p)) →
    AreDelayed bytes partitions roots ps → SlotsFlow partitions roots ps

-- the slot waits in this queue
abbrev pub IsQueued : SlotName → List Numbered → Type 0
IsQueued s queue = (n : Numbered) × Contains queue n × (n.slot ≡ s)

-- the slot is in one of a thread's lists of partition p
abbrev pub IsListed : SlotName → Cache → ℕ → Type 0
IsListed s lists p = (class : ℕ) × (class < class_count) × (n : Numbered) × Contains (lists p class) n × (n.slot ≡ s)

-- A run that was played in the order of its lines: the steps of each slot are one run, and the pool and the journals are those of
-- the records.
pub record IsPlayedInOrder (supers partitions : ℕ) (ps : List Played) (pools : List PoolEntry) (roots : Journals)
    (cells : ℕ → List CellEntry) : Type 0 where
  pub rising : RiseByLine ps
  pub slots : Slots (marks_of ps)
  pub are_pool : IsPoolOf supers ps pools roots
  pub are_roots : AreRoots partitions ps pools roots
  pub order : IsInFileOrder ps pools roots cells

-- No slot is issued while it waits. Here xs are the first records of a run that was played in the order of its lines.
--   told: a delayed run of a trace was played so
--   free: after xs each slot in a queue is free: it is neither held nor referenced
--   made: if the next record made a slot, that slot was in no queue before it, and is in none after it
pub record NoneIsIssuedWhileItWaits : Type 0 where
  pub told : (bytes : ℕ) (t : Trace) (r : Told) → IsDelayedTold bytes t r →
      IsPlayedInOrder t.region t.partitions (records_of t r) r.pools r.roots r.cells
  pub free : (bytes supers partitions : ℕ) (pools : List PoolEntry) (roots : Journals) (cells : ℕ → List CellEntry) (xs ys : List Played)
      (all : Caches) (waiting : Queues) (s : SlotName) (thread w : ℕ) → IsPlayedInOrder supers partitions (xs ++ ys) pools roots cells →
      DelayedTo bytes partitions roots no_caches no_queues xs all waiting → IsQueued s (waiting thread) → HasWord xs s w → IsFree w
  pub made : (bytes supers partitions : ℕ) (pools : List PoolEntry) (roots : Journals) (cells : ℕ → List CellEntry) (xs ys : List Played)
      (x : Played) (seen : Seen) (usable : ℕ) (all after : Caches) (waiting left : Queues) (thread : ℕ) →
      IsPlayedInOrder supers partitions (xs ++ x ∷ ys) pools roots cells →
      DelayedTo bytes partitions roots no_caches no_queues xs all waiting →
      DelayedTo bytes partitions roots all waiting (x ∷ []) after left →
      x.answer ≡ Made seen usable → (IsQueued seen.slot (waiting thread) → ⊥) × (IsQueued seen.slot (left thread) → ⊥)

-- after all records of a delayed run a free slot that is out of its root is in the lists or the queue of some thread
abbrev pub WaitsSomewhere : Type 0
WaitsSomewhere =
    (bytes supers partitions threads p : ℕ) (ps : List Played) (pools : List PoolEntry) (roots : Journals) (all : Caches)
    (waiting : Queues) (s : SlotName) (w : ℕ) → AreRoots partitions ps pools roots → IsPoolOf supers ps pools roots →
    AllPairs (λ (x y : Played). x.line ≢ y.line) ps → All (λ (x : Played). x.thread < threads) ps → Slots (marks_of ps) →
    DelayedTo bytes partitions roots no_caches no_queues ps all waiting → p < partitions →
    IsNameOut (root_replayed pools (roots p) new_root) s → HasWord ps s w → IsFree w →
    (t : ℕ) × (t < threads) × (IsListed s (all t) p ⊎ IsQueued s (waiting t))
