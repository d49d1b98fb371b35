-- A thread's queue of slots that were returned: first in, first out, within a limit in bytes.
use Rattle.std.specs.Prelude.{◌≡◌, ℕ, ◌+◌, ◌==◌, ◌<◌, ◌≤◌, if◌then◌else◌, List, [], ◌∷◌, ◌++◌, length, slice_index_or, Option, Some, None, All}
use Rattle.pa_buckets.specs.Limits.{class_count}
use Rattle.pa_buckets.specs.Table.{slot_of}
use Rattle.pa_trace.specs.Limits.{most_partitions}
use Rattle.pa_record.specs.declared.report.Tally.{Tally}
use Rattle.pa_rules.specs.Lists.{no_tally}
use Rattle.pa_cells.specs.declared.handle.Handle.{Handle}

-- The front of a queue goes, as little of it as leaves at most as many bytes as the limit says. `Have` says how many bytes slots have.
pub record GoesPast {A : Type 0} (Have : List A → ℕ → Type 0) (bytes : ℕ) (queue gone stays : List A) : Type 0 where
  pub parts : queue ≡ gone ++ stays
  pub fits : (n : ℕ) × Have stays n × (n ≤ bytes)
  pub least : (front : List A) (last : A) (n : ℕ) → gone ≡ front ++ last ∷ [] → Have (last ∷ stays) n → bytes < n

-- the slot size of a class, in bytes; 0 if there is none
abbrev pub size_of_class : Option ℕ → ℕ
size_of_class None = 0
size_of_class (Some class) = slot_of class

-- the slot sizes of the slots of these handles together, in bytes
abbrev pub waiting_bytes : List Handle → ℕ
waiting_bytes [] = 0
waiting_bytes (h ∷ hs) = size_of_class h.class + waiting_bytes hs

-- the slot sizes of the slots of these handles add up to n bytes
abbrev pub AreBytes : List Handle → ℕ → Type 0
AreBytes handles n = n ≡ waiting_bytes handles

-- how many slots of a queue are partition p's
abbrev pub queued_slots : ℕ → List Handle → ℕ
queued_slots p [] = 0
queued_slots p (h ∷ hs) = (if h.partition == p then 1 else 0) + queued_slots p hs

-- and how many bytes these have
abbrev pub queued_bytes : ℕ → List Handle → ℕ
queued_bytes p [] = 0
queued_bytes p (h ∷ hs) = (if h.partition == p then size_of_class h.class else 0) + queued_bytes p hs

-- the handle's slot is of one of the classes
abbrev pub IsClassed : Handle → Type 0
IsClassed h = (class : ℕ) × (h.class ≡ Some class) × (class < class_count)

-- the slot of each of these handles is of one of the classes
abbrev pub AreClassed : List Handle → Type 0
AreClassed = All IsClassed

-- The slots are of the partitions of a run, and these are the tallies of them, one for each partition.
pub record AreTallied (slots : List Handle) (tallies : List Tally) : Type 0 where
  pub placed : All (λ (h : Handle). h.partition < most_partitions) slots
  pub four : length tallies ≡ most_partitions
  pub each : (p : ℕ) → p < most_partitions →
      slice_index_or tallies p no_tally ≡ record { slots = queued_slots p slots; bytes = queued_bytes p slots }

-- a queue: the most bytes that stay in it, how many slots it has room for, and the handles of its slots, front first
pub record QueueList : Type 0 where
  pub limit : ℕ
  pub room : ℕ
  pub slots : List Handle

-- the queue with these handles in place of those that it had
abbrev pub with_waiting : QueueList → List Handle → QueueList
with_waiting q slots = record { limit = q.limit; room = q.room; slots = slots }

-- after this one has gone, what goes past the limit of the rest goes past that of all
abbrev pub GoesFirst : QueueList → List Handle → Handle → Type 0
GoesFirst q rest h =
    (gone stays : List Handle) → GoesPast AreBytes q.limit rest gone stays → GoesPast AreBytes q.limit q.slots (h ∷ gone) stays
