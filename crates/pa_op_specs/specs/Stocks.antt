-- What a worker has: a seat, registers, and lists of free slots, as contracts see it, and what is always true of it.
use Rattle.std.specs.Prelude.{◌≡◌, ℕ, ◌+◌, ◌*◌, ◌%◌, ◌<◌, ◌≤◌, ◌&&◌, List, [], length, if◌then◌else◌, ◌⊎◌, Some, Contains, slice_index_or}
use Rattle.std.specs.List.{sum_by}
use Rattle.pa_slot.specs.declared.title.Title.{Title}
use Rattle.pa_slot.specs.Titles.{same_title, IsWellFormed}
use Rattle.pa_slot.specs.Holdings.{one}
use Rattle.pa_buckets.specs.Limits.{first_class}
use Rattle.pa_trace.specs.declared.script.Rules.{Rules}
use Rattle.pa_record.specs.Spans.{name_of}
use Rattle.pa_trace.specs.Limits.{register_count, most_partitions, most_threads}
use Rattle.pa_rules.specs.Lists.{cache_place}
use Rattle.pa_rules.specs.Sizes.{HasClass, is_class, class_total}
use Rattle.pa_region.specs.declared.view.View.{View}
use Rattle.pa_region.specs.Views.{free_of, own_of, sealed_of, ref_of, stake_of}
use Rattle.pa_region.specs.Waiting.{unclean_of}
use Rattle.pa_rules.specs.declared.register.Register.{Register}
use Rattle.pa_rules.specs.Registers.{Reg, Regs}
use Rattle.pa_rules.specs.Nexts.{named}
use Rattle.pa_rules.specs.Caches.{Cache}
use Rattle.pa_buckets.specs.Bands.{limit_of}
use Rattle.pa_cache.specs.Caches.{CacheList, IsCache}
use Rattle.pa_cells.specs.declared.handle.Handle.{Handle}
use Rattle.pa_cells.specs.Handles.{HasSeenMade, is_plain}
use Rattle.pa_root.specs.Handing.{numbered_by}
use Rattle.pa_rules.specs.declared.register.Register.TheVariants.{Empty, Own, Ref, Freed, Cleared}

-- What a register of a worker has. Of a handle's slot the title, partition and class are known.
abbrev pub StockRegister : Type 0
StockRegister = Register Handle

-- A worker's lists of free slots: the version of the run, and a cache for each of 4 partitions
-- and of the version's classes, those of partition 0 first.
pub record WorkerLists : Type 0 where
  pub version : ℕ
  pub lists : List CacheList

-- A worker's thread state, as contracts see it: the number of its thread, how many partitions the run has, the first plain
-- partition, the view of its seat, its registers, and its lists.
pub record StockValue : Type 0 where
  pub thread : ℕ
  pub partitions : ℕ
  pub plain_from : ℕ
  pub view : View
  pub registers : List StockRegister
  pub caches : WorkerLists

-- the rules by which a worker plays: those of its lists' version, with its first plain partition
abbrev pub rules_at : StockValue → Rules
rules_at s = record { version = s.caches.version; plain_from = s.plain_from }

-- what register number i has, which is nothing if it isn't there
abbrev pub register_in : List StockRegister → ℕ → StockRegister
register_in registers i = slice_index_or registers i Empty

-- the cache to use if there is none: it has no titles
abbrev pub no_cache : CacheList
no_cache = record { class = 0; titles = [] }

-- the titles in the cache of a partition and a class, front first, or none if the version has no such class
abbrev pub titles_in : WorkerLists → ℕ → ℕ → List Title
titles_in caches p class =
    if is_class caches.version class then (slice_index_or caches.lists (cache_place caches.version p class) no_cache).titles else []

-- a worker's register, as the rules of a run have it
abbrev pub as_reg : StockRegister → Reg
as_reg r = named (λ (h : Handle). name_of h.title) r

-- a worker's registers by their numbers, as the rules of a run have them
abbrev pub regs_of : List StockRegister → Regs
regs_of registers i = as_reg (register_in registers i)

-- a worker's lists, as the rules have them: each title at the number that the seat has seen
abbrev pub listed_in : StockValue → Cache
listed_in s p class = numbered_by s.view (titles_in s.caches p class)

-- 1 if the register has the title's Own, else 0
abbrev pub owns_one : Title → StockRegister → ℕ
owns_one t Empty = 0
owns_one t (Own h) = one (same_title h.title t)
owns_one t (Ref h) = 0
owns_one t Freed = 0
owns_one t Cleared = 0

-- 1 if the register has the title's Own, of a slot in a plain partition, else 0
abbrev pub seals_one : ℕ → Title → StockRegister → ℕ
seals_one plain_from t Empty = 0
seals_one plain_from t (Own h) = one (same_title h.title t && is_plain plain_from h)
seals_one plain_from t (Ref h) = 0
seals_one plain_from t Freed = 0
seals_one plain_from t Cleared = 0

-- 1 if the register has a Ref of the title, else 0
abbrev pub refs_one : Title → StockRegister → ℕ
refs_one t Empty = 0
refs_one t (Own h) = 0
refs_one t (Ref h) = one (same_title h.title t)
refs_one t Freed = 0
refs_one t Cleared = 0

-- the register has this handle, or none
abbrev pub HasHandleTo : Handle → StockRegister → Type 0
HasHandleTo h r = (r ≡ Own h) ⊎ (r ≡ Ref h)

-- the register has no handle: it is empty, freed or cleared
abbrev pub HasNoHandle : StockRegister → Type 0
HasNoHandle Empty = Unit {0}
HasNoHandle (Own h) = ⊥
HasNoHandle (Ref h) = ⊥
HasNoHandle Freed = Unit {0}
HasNoHandle Cleared = Unit {0}

-- the view has seen how the slot of this register's handle was made
abbrev pub IsMadeFor : View → StockRegister → Type 0
IsMadeFor v Empty = Unit {0}
IsMadeFor v (Own h) = HasSeenMade h v
IsMadeFor v (Ref h) = HasSeenMade h v
IsMadeFor v Freed = Unit {0}
IsMadeFor v Cleared = Unit {0}

-- What is known of handles. The seat has each Own and each Ref as many times as registers have it. No Own is unclean, and exactly
-- those of plain partitions are sealed. It has seen how each of their slots was made.
pub record HoldsHandles (plain_from : ℕ) (registers : List StockRegister) (v : View) : Type 0 where
  pub count : length registers ≡ register_count
  pub owns : (t : Title) → own_of v t ≡ sum_by (owns_one t) registers
  pub refs : (t : Title) → ref_of v t ≡ sum_by (refs_one t) registers
  pub clean : unclean_of v ≡ 0
  pub sealed : (t : Title) → sealed_of v t ≡ sum_by (seals_one plain_from t) registers
  pub made : (i : ℕ) → IsMadeFor v (register_in registers i)

-- the slot of this title, as one of partition p and of the class
abbrev pub listed_slot : ℕ → ℕ → Title → Handle
listed_slot p class t = record { title = t; partition = p; class = Some class }

-- What is known of the lists. None is longer than its class's limit. The seat has each listed title free, none is in two lists, and
-- it has seen the fill that handed the slot out, of its partition and class. Each title is well formed.
pub record HoldsLists (caches : WorkerLists) (v : View) : Type 0 where
  pub count : length caches.lists ≡ most_partitions * class_total caches.version
  pub sound : (k : ℕ) → IsCache (slice_index_or caches.lists k no_cache)
  pub classes : (p class : ℕ) → p < most_partitions → HasClass caches.version class →
      (slice_index_or caches.lists (cache_place caches.version p class) no_cache).class ≡ class
  pub few : (p class : ℕ) → length (titles_in caches p class) ≤ limit_of class
  pub free : (p class : ℕ) (t : Title) → Contains (titles_in caches p class) t → 0 < free_of v t
  pub apart : (p q class other : ℕ) (t : Title) → Contains (titles_in caches p class) t → Contains (titles_in caches q other) t →
      (p ≡ q) × (class ≡ other)
  pub made : (p class : ℕ) (t : Title) → Contains (titles_in caches p class) t → HasSeenMade (listed_slot p class t) v
  pub well : (p class : ℕ) (t : Title) → Contains (titles_in caches p class) t → (words : ℕ) × IsWellFormed words t

-- The stake. It is the thread's, or none while the worker has lent it.
pub record HoldsStake (thread : ℕ) (v : View) : Type 0 where
  pub small : thread < most_threads
  pub only : (k : ℕ) → (k ≡ thread → ⊥) → stake_of v k ≡ 0

-- What is always true of a worker's thread state.
pub record IsStock (s : StockValue) : Type 0 where
  pub partitions : s.partitions ≤ most_partitions
  pub handles : HoldsHandles s.plain_from s.registers s.view
  pub lists : HoldsLists s.caches s.view
  pub stake : HoldsStake s.thread s.view

-- A view with which a worker can begin: it has the thread's stake and no other, and no handle.
pub record IsForThread (thread : ℕ) (v : View) : Type 0 where
  pub stake : HoldsStake thread v
  pub has : 0 < stake_of v thread
  pub unused : (t : Title) → own_of v t + ref_of v t ≡ 0

-- the worker's thread state at the start: its registers and lists are empty
pub record IsNewStock (thread partitions plain_from version : ℕ) (v : View) (s : StockValue) : Type 0 where
  pub thread_is : s.thread ≡ thread
  pub partitions_are : s.partitions ≡ partitions
  pub plain_is : s.plain_from ≡ plain_from
  pub version_is : s.caches.version ≡ version
  pub view : s.view ≡ v
  pub registers : (i : ℕ) → register_in s.registers i ≡ Empty
  pub lists : (p class : ℕ) → titles_in s.caches p class ≡ []

-- these are the first `count` lists of a worker at the start: of each class of the version in turn, without titles
pub record AreNoLists (version count : ℕ) (caches : List CacheList) : Type 0 where
  pub count_is : length caches ≡ count
  pub each : (k : ℕ) → k < count
      → slice_index_or caches k no_cache ≡ record { class = first_class version + k % class_total version; titles = [] }
