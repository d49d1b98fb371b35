-- A delayed run: each slot of a class that a step returned waits in a queue of its thread, first in, first out and within a limit in
-- bytes, before the thread's list sees it. All else is as in a run without queues.
use Rattle.std.specs.Prelude.{◌≡◌, ℕ, ◌+◌, ◌<◌, ◌==◌, if◌then◌else◌, ◌⊎◌, List, [], ◌∷◌, ◌++◌, length, Option, Some, None}
use Rattle.pa_slot.specs.declared.word.Step.{Step}
use Rattle.pa_slot.specs.Count.{number_of}
use Rattle.pa_slot.specs.Run.{IsReturning}
use Rattle.pa_buckets.specs.Limits.{class_count}
use Rattle.pa_buckets.specs.Table.{slot_of}
use Rattle.pa_record.specs.declared.entry.Seen.{Seen}
use Rattle.pa_record.specs.declared.entry.Answer.{Answer}
use Rattle.pa_record.specs.declared.entry.Answer.TheVariants as answers
use Rattle.pa_record.specs.declared.numbered.Numbered.{Numbered}
use Rattle.pa_record.specs.declared.root.RootAct.{RootAct}
use Rattle.pa_rules.specs.declared.played.Played.{Played}
use Rattle.pa_rules.specs.Played.{step_of}
use Rattle.pa_rules.specs.Roots.{Journals}
use Rattle.pa_rules.specs.Caches.{Cache, Caches, with_list, with_cache, SameLists, acts_of, OnlyActs, NoActs, gives, kept, spilled, IsOfClass, IsDirect, unmap_at, purge_acts, all_listed, CacheRow}
use Rattle.pa_delay.specs.Queue.{GoesPast}

-- what a thread has: its lists, and its queue, front first
pub record Waiting : Type 0 where
  pub lists : Cache
  pub queue : List Numbered

-- the queue of each thread, by the thread's number
abbrev pub Queues : Type 0
Queues = ℕ → List Numbered

-- the threads' queues, with this one in place of one thread's
abbrev pub with_queue : Queues → ℕ → List Numbered → Queues
with_queue waiting thread queue t = if t == thread then queue else waiting t

-- the slot sizes of these slots add up to n
abbrev pub HaveBytes : Journals → List Numbered → ℕ → Type 0
HaveBytes roots [] n = n ≡ 0
HaveBytes roots (s ∷ ss) n = (p class m : ℕ) × IsOfClass roots s.slot p class × HaveBytes roots ss m × (n ≡ slot_of class + m)

-- A slot leaves its queue: it becomes the front of its list, and what doesn't stay there goes back to the root.
-- These are the acts, by their partitions.
abbrev pub Leaves : Journals → Numbered → Cache → (ℕ → List RootAct) → Cache → Type 0
Leaves roots s cache acts after =
    (p class : ℕ) × IsOfClass roots s.slot p class
    × ((q : ℕ) → acts q ≡ (if q == p then gives (spilled class (s ∷ cache p class)) else []))
    × SameLists after (with_list cache p class (kept class (s ∷ cache p class)))

-- the slots leave one after another, and in each partition the acts of one come before those of the next
abbrev pub AllLeave : Journals → List Numbered → Cache → (ℕ → List RootAct) → Cache → Type 0
AllLeave roots [] cache acts after = ((q : ℕ) → acts q ≡ []) × SameLists after cache
AllLeave roots (s ∷ ss) cache acts after =
    (next : Cache) × (first rest : ℕ → List RootAct) × Leaves roots s cache first next × AllLeave roots ss next rest after
    × ((q : ℕ) → acts q ≡ first q ++ rest q)

-- lists and queue stay as they were
abbrev pub StaysWaiting : Waiting → Waiting → Type 0
StaysWaiting before after = SameLists after.lists before.lists × (after.queue ≡ before.queue)

-- A step returned a slot, which it left at this number. A slot of a class becomes the back of the queue, and at the queue's
-- front just enough slots leave for the rest to have at most as many bytes as the limit says. A direct map goes back at once.
abbrev pub DelayedReturn : ℕ → Journals → Played → Numbered → Waiting → Waiting → Type 0
DelayedReturn bytes roots x slot before after =
    ((p class : ℕ) × (gone : List Numbered) × (acts : ℕ → List RootAct) × IsOfClass roots slot.slot p class
    × GoesPast (HaveBytes roots) bytes (before.queue ++ slot ∷ []) gone after.queue
    × AllLeave roots gone before.lists acts after.lists × ((q : ℕ) → acts_of roots x.line q ≡ acts q))
    ⊎ ((p asked number : ℕ) × IsDirect roots slot.slot p × OnlyActs roots x.line p (unmap_at asked slot.slot number ∷ [])
    × StaysWaiting before after)

-- a step was made: if it is a returning one the slot comes to the queue or goes back,
-- and else lists and queue stay as they were
abbrev pub DelayedDone : ℕ → Journals → Played → Option Step → Seen → Waiting → Waiting → Type 0
DelayedDone bytes roots x None seen before after = NoActs roots x.line × StaysWaiting before after
DelayedDone bytes roots x (Some step) seen before after =
    (IsReturning step seen.found.0
    × DelayedReturn bytes roots x (record { slot = seen.slot; number = number_of seen.found.0 + 1 }) before after)
    ⊎ ((IsReturning step seen.found.0 → ⊥) × NoActs roots x.line × StaysWaiting before after)

-- A purge: all slots leave the queue, and then all lists go back. Its answer is how many slots lists and queue had.
abbrev pub DelayedPurge : ℕ → Journals → Played → ℕ → Waiting → Waiting → Type 0
DelayedPurge partitions roots x slots before after =
    (acts : ℕ → List RootAct) × (mid : Cache) × AllLeave roots before.queue before.lists acts mid
    × ((p : ℕ) → p < partitions → acts_of roots x.line p ≡ acts p ++ purge_acts (mid p) 0 class_count)
    × (slots ≡ all_listed before.lists 0 partitions + length before.queue) × ((p c : ℕ) → after.lists p c ≡ []) × (after.queue ≡ [])

-- a record, by its answer: the entries of its line, and what its thread has after it
abbrev pub DelayedRow : ℕ → ℕ → Journals → Played → Answer → Waiting → Waiting → Type 0
DelayedRow bytes partitions roots x (answers.Done seen) before after = DelayedDone bytes roots x (step_of x.op) seen before after
DelayedRow bytes partitions roots x (answers.Purged slots) before after = DelayedPurge partitions roots x slots before after
DelayedRow bytes partitions roots x answer before after =
    CacheRow partitions roots x answer before.lists after.lists × (after.queue ≡ before.queue)

-- record by record, lists, queues and entries are those that the answers ask for
abbrev pub DelayedTo : ℕ → ℕ → Journals → Caches → Queues → List Played → Caches → Queues → Type 0
DelayedTo bytes partitions roots all waiting [] after left = (after ≡ all) × (left ≡ waiting)
DelayedTo bytes partitions roots all waiting (x ∷ xs) after left =
    (next : Waiting) × DelayedRow bytes partitions roots x x.answer (record { lists = all x.thread; queue = waiting x.thread }) next
    × DelayedTo bytes partitions roots (with_cache all x.thread next.lists) (with_queue waiting x.thread next.queue) xs after left

-- the queues at the start, all of which are empty
abbrev pub no_queues : Queues
no_queues thread = []
