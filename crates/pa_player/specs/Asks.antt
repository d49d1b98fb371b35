-- What the parts of an op require of the player.
use Rattle.std.specs.Prelude.{◌≡◌, ℕ, zero, suc, ◌+◌, ◌*◌, ◌%◌, ◌<◌, ◌≤◌, ◌^◌, List, [], ◌∷◌, ◌++◌, map, length}
use Rattle.std.specs.Prelude.{Option, Some, None, All, Contains}
use Rattle.pa_slot.specs.Count.{CanStep, refs_of}
use Rattle.pa_slot.specs.Run.{IsReturning}
use Rattle.pa_slot.specs.declared.word.Step.TheVariants as steps
use Rattle.pa_layout.specs.Limits.{most_supers}
use Rattle.pa_layout.specs.Pages.{super_page_at, supers_for}
use Rattle.pa_buckets.specs.Limits.{first_class}
use Rattle.pa_rules.specs.Sizes.{HasClass, class_total}
use Rattle.pa_buckets.specs.Bands.{limit_of}
use Rattle.pa_record.specs.declared.taken.Taken.{Taken}
use Rattle.pa_record.specs.Pool.{IsOneTake}
use Rattle.pa_record.specs.Sound.{IsSound, IsBornBelow}
use Rattle.pa_trace.specs.Limits.{register_count, cell_count, most_partitions, most_threads}
use Rattle.pa_heap_effects.specs.Ops.{AreOut}
use Rattle.pa_player.specs.Player.{Player}
use Rattle.pa_player.specs.Playing.{numbered_at, list_place, root_of, register_at, cell_at}
use Rattle.pa_player.specs.Tallies.{tally_at}
use Rattle.pa_player.specs.Tables.{slot_at, HasNone, IsIn}
use Rattle.pa_player.specs.Told.{journal_in, history_in}
use Rattle.pa_player.specs.Changes.{list_in, bytes_at, put_front, reset_last, freed_at, IsFilled, IsMapPlaced}

-- The slots at these indices can go back to the root of partition q.
pub record CanGive (q : ℕ) (xs : List ℕ) (p : Player) : Type 0 where
  pub root : q < length p.heap.roots
  pub journal : q < length p.told.journals
  pub four : q < most_partitions
  pub among : All (λ i. i < length p.table) xs
  pub sound : IsSound (root_of p q)
  pub out : AreOut (root_of p q) (map (numbered_at p.table) xs)
  pub turn : (root_of p q).turn + 32 * length xs < 2 ^ 61
  pub few : length (journal_in p.told q) + length xs < 2 ^ 28
  pub slots : length xs ≤ (tally_at p.cached.of q).slots
  pub bytes : bytes_at p.table xs ≤ (tally_at p.cached.of q).bytes

-- Partition q's root can place slots for a list, or a direct map.
pub record CanPlace (q : ℕ) (p : Player) : Type 0 where
  pub root : q < length p.heap.roots
  pub journal : q < length p.told.journals
  pub four : q < most_partitions
  pub turn : (root_of p q).turn < 2 ^ 62
  pub entries : p.heap.pool.entries < 2 ^ 31
  pub born : IsBornBelow p.heap.pool.entries (root_of p q)
  pub few : length (journal_in p.told q) < 2 ^ 31
  pub table : length p.table < 2 ^ 31
  pub slots : (tally_at p.cached.of q).slots < 2 ^ 31
  pub bytes : (tally_at p.cached.of q).bytes < 2 ^ 62

-- The slot at an index can go to the front of the list of its class, and those that then don't stay can go back to the root.
pub record CanPutBack (thread i q class : ℕ) (p : Player) : Type 0 where
  pub real : HasClass p.version class
  pub threads : thread < most_threads
  pub four : p.partitions ≤ most_partitions
  pub among : q < p.partitions
  pub at : list_place p.version p.partitions thread q class < length p.caches
  pub short : length (list_in p (list_place p.version p.partitions thread q class)) ≤ limit_of class
  pub slots : (tally_at p.cached.of q).slots < 2 ^ 31
  pub bytes : (tally_at p.cached.of q).bytes < 2 ^ 62
  pub gives : CanGive q (i ∷ list_in p (list_place p.version p.partitions thread q class))
      (put_front q (list_place p.version p.partitions thread q class) i p)

-- The direct map at an index can go back to the pool.
pub record CanUnmap (i q : ℕ) (p : Player) : Type 0 where
  pub root : q < length p.heap.roots
  pub journal : q < length p.told.journals
  pub entries : p.heap.pool.entries < 2 ^ 31
  pub few : length (journal_in p.told q) < 2 ^ 31
  pub mapped : Contains (root_of p q).maps (slot_at p.table i).title
  pub one_take : (t : Taken) × IsOneTake p.heap.pool (super_page_at (slot_at p.table i).title.start)
      (supers_for (slot_at p.table i).title.len) t

-- A slot that a step returned can go back: to its list if it has a class, else to the pool.
abbrev pub CanTakeBack : ℕ → ℕ → ℕ → Option ℕ → Player → Type 0
CanTakeBack thread i q (Some class) p = CanPutBack thread i q class p
CanTakeBack thread i q None p = CanUnmap i q p

-- Up to 16 slots that left the root of partition q can be put into a list that is empty.
pub record CanPut (q : ℕ) (p : Player) : Type 0 where
  pub four : q < most_partitions
  pub table : length p.table < 2 ^ 31
  pub slots : (tally_at p.cached.of q).slots < 2 ^ 31
  pub bytes : (tally_at p.cached.of q).bytes < 2 ^ 62

-- the indices of the slots in a thread's lists of partition q, of `n` classes from one class on
unfoldable pub places_from : ℕ → ℕ → ℕ → ℕ → Player → List ℕ
places_from thread q class zero p = []
places_from thread q class (suc n) p = list_in p (list_place p.version p.partitions thread q class) ++ places_from thread q (class + 1) n p

-- those in all of its lists
abbrev pub places_all : ℕ → ℕ → Player → List ℕ
places_all thread q p = places_from thread q (first_class p.version) (class_total p.version) p

-- All that a thread's lists of one partition have can go back, which is at most 65 slots of each class.
pub record CanPurgeOne (thread q : ℕ) (p : Player) : Type 0 where
  pub threads : thread < most_threads
  pub four : p.partitions ≤ most_partitions
  pub among : q < p.partitions
  pub lists : (class : ℕ) → HasClass p.version class → list_place p.version p.partitions thread q class < length p.caches
  pub gives : CanGive q (places_all thread q p) p

-- ---- each op

-- The free slot at an index can be issued to a register.
pub record CanIssue (thread reg i : ℕ) (p : Player) : Type 0 where
  pub threads : thread < length p.registers
  pub regs : reg < register_count
  pub place : i < length p.table
  pub step : CanStep steps.Issue (slot_at p.table i).word.0
  pub long : 8 ≤ (slot_at p.table i).title.len
  pub four : (slot_at p.table i).partition < most_partitions
  pub slots : (tally_at p.live.of (slot_at p.table i).partition).slots < 2 ^ 31
  pub bytes : (tally_at p.live.of (slot_at p.table i).partition).bytes < 2 ^ 62

-- The slot at the front of a list can be issued to a register, and leaves the cache.
pub record CanIssueFront (thread reg q at : ℕ) (p : Player) : Type 0 where
  pub four : q < most_partitions
  pub issue : (i : ℕ) (rest : List ℕ) → list_in p at ≡ i ∷ rest → CanIssue thread reg i p
  pub slots : (i : ℕ) (rest : List ℕ) → list_in p at ≡ i ∷ rest → 1 ≤ (tally_at p.cached.of q).slots
  pub bytes : (i : ℕ) (rest : List ℕ) → list_in p at ≡ i ∷ rest → (slot_at p.table i).title.len ≤ (tally_at p.cached.of q).bytes

-- A slot of the class can be allocated in partition q.
pub record CanAllocateSlot (thread reg q class : ℕ) (p : Player) : Type 0 where
  pub real : HasClass p.version class
  pub threads : thread < most_threads
  pub four : p.partitions ≤ most_partitions
  pub among : q < p.partitions
  pub at : list_place p.version p.partitions thread q class < length p.caches
  pub place : CanPlace q p
  pub front : CanIssueFront thread reg q (list_place p.version p.partitions thread q class) p
  pub filled : (r : Player) → list_in p (list_place p.version p.partitions thread q class) ≡ []
      → IsFilled q (list_place p.version p.partitions thread q class) class p r
      → CanIssueFront thread reg q (list_place p.version p.partitions thread q class) r

-- A direct map of `len` bytes, which are whole pages of 4,096 bytes, can be allocated in as many super pages as it needs.
pub record CanAllocateMap (thread reg q len supers : ℕ) (p : Player) : Type 0 where
  pub whole : len % 4096 ≡ 0
  pub some : 0 < len
  pub count : supers ≡ supers_for len
  pub few : supers ≤ most_supers
  pub place : CanPlace q p
  pub issue : (r : Player) (i : ℕ) → IsMapPlaced q len supers p r i → CanIssue thread reg i r

-- A handle of the slot at an index can be copied to a register, with a step on the count word if that register has no handle.
pub record CanCopy (thread to i : ℕ) (p : Player) : Type 0 where
  pub threads : thread < length p.registers
  pub regs : to < register_count
  pub place : i < length p.table
  pub step : HasNone (register_at p thread to) → CanStep steps.Copy (slot_at p.table i).word.0

-- A `raw_ptr` to the slot at an index can be reset.
pub record CanReset (thread reg i : ℕ) (p : Player) : Type 0 where
  pub threads : thread < length p.registers
  pub regs : reg < register_count
  pub place : i < length p.table
  pub step : CanStep steps.Reset (slot_at p.table i).word.0
  pub four : (slot_at p.table i).partition < most_partitions
  pub slots : IsReturning steps.Reset (slot_at p.table i).word.0 → 1 ≤ (tally_at p.quarantined.of (slot_at p.table i).partition).slots
  pub bytes : IsReturning steps.Reset (slot_at p.table i).word.0
      → (slot_at p.table i).title.len ≤ (tally_at p.quarantined.of (slot_at p.table i).partition).bytes
  pub back : IsReturning steps.Reset (slot_at p.table i).word.0
      → CanTakeBack thread i (slot_at p.table i).partition (slot_at p.table i).class (reset_last thread reg i p)

-- The owner of the slot at an index can free it. If no `raw_ptr` points to the slot, it can go back at once.
pub record CanFree (thread reg i : ℕ) (p : Player) : Type 0 where
  pub threads : thread < length p.registers
  pub regs : reg < register_count
  pub place : i < length p.table
  pub step : CanStep steps.Free (slot_at p.table i).word.0
  pub four : (slot_at p.table i).partition < most_partitions
  pub slots : 1 ≤ (tally_at p.live.of (slot_at p.table i).partition).slots
  pub bytes : (slot_at p.table i).title.len ≤ (tally_at p.live.of (slot_at p.table i).partition).bytes
  pub few : (tally_at p.quarantined.of (slot_at p.table i).partition).slots < 2 ^ 31
  pub short : (tally_at p.quarantined.of (slot_at p.table i).partition).bytes < 2 ^ 62
  pub back : refs_of (slot_at p.table i).word.0 ≡ 0
      → CanTakeBack thread i (slot_at p.table i).partition (slot_at p.table i).class (freed_at thread reg i p)

-- The owner of the slot at an index can write to it, with a step on the count word if no `raw_ptr` points to the slot.
pub record CanWrite (i : ℕ) (p : Player) : Type 0 where
  pub place : i < length p.table
  pub step : refs_of (slot_at p.table i).word.0 ≡ 0 → CanStep steps.Write (slot_at p.table i).word.0

-- The slot at an index can be read, since it has the 8 bytes of its count word.
pub record CanRead (i : ℕ) (p : Player) : Type 0 where
  pub place : i < length p.table
  pub long : 8 ≤ (slot_at p.table i).title.len

-- The handle of a register can be exchanged with that of a cell.
pub record CanSwap (thread cell reg : ℕ) (p : Player) : Type 0 where
  pub threads : thread < length p.registers
  pub regs : reg < register_count
  pub cells : cell < cell_count
  pub held : IsIn (length p.table) (register_at p thread reg)
  pub celled : IsIn (length p.table) (cell_at p cell)
  pub history : cell < length p.told.histories
  pub few : length (history_in p.told cell) < 2 ^ 31

-- A thread can purge all partitions in turn.
pub record CanPurge (thread : ℕ) (p : Player) : Type 0 where
  pub four : p.partitions ≤ most_partitions
  pub each : (q : ℕ) → q < p.partitions → CanPurgeOne thread q p

-- A phase can end, with a line of the report for each partition.
pub record CanEnd (p : Player) : Type 0 where
  pub four : p.partitions ≤ most_partitions
  pub roots : length p.heap.roots ≡ p.partitions
  pub phase : p.phase < 2 ^ 31
  pub line : p.told.line ≤ 65537
