-- A title that exists was never uncut, and is held if no log names it.
use Rattle.std.specs.Prelude.{◌≡◌, ℕ, ◌<◌, List, Contains}
use Rattle.pa_slot.specs.declared.title.Title.{Title}
use Rattle.pa_slot.specs.declared.word.SlotName.{SlotName}
use Rattle.pa_slot.specs.Run.{Slots}
use Rattle.pa_buckets.specs.Limits.{class_count}
use Rattle.pa_record.specs.declared.numbered.Numbered.{Numbered}
use Rattle.pa_record.specs.declared.pool.PoolEntry.{PoolEntry}
use Rattle.pa_record.specs.declared.root.RootEntry.{RootEntry}
use Rattle.pa_record.specs.declared.root.RootAct.TheVariants.{Unmap}
use Rattle.pa_record.specs.Numbers.{root_numbers}
use Rattle.pa_record.specs.Spans.{name_of}
use Rattle.pa_record.specs.Root.{new_root, root_replayed, IsJournal}
use Rattle.pa_record.specs.Sound.{IsMade}
use Rattle.pa_record.specs.Laws.{IsNameOut}
use Rattle.pa_trace.specs.Limits.{most_partitions}
use Rattle.pa_region.specs.declared.view.Entry.TheVariants.{Uncut}
use Rattle.pa_region.specs.declared.view.Made.{Made}
use Rattle.pa_region.specs.declared.view.View.{View}
use Rattle.pa_region.specs.Views.{HasTitle, free_of, logged_of, names, uncut_of}
use Rattle.pa_region.specs.Lists.{entered_in}
use Rattle.pa_rules.specs.Played.{marks_of}
use Rattle.pa_rules.specs.Caches.{Caches, CachesTo, no_caches}
use Rattle.pa_rules.specs.Roots.{Journals, AreRoots, IsPoolOf}
use Rattle.pa_rules.specs.Held.{IsStanding}
use Rattle.pa_logs.specs.Told.{ToldRecord, played_in, AreLogs}
use Rattle.pa_logs.specs.Touches.{title_of, AreTold}
use Rattle.pa_logs.specs.Listed.{AreRising}
use Rattle.pa_logs.specs.Indices.{AreLists}

-- In the list of root p the record entered that this title goes back: it is the direct map that the entry unmaps.
pub record Unmaps (x : ToldRecord) (t : Title) : Type 0 where
  pub partition : ℕ
  pub small : partition < most_partitions
  pub made : Made
  pub entry : RootEntry
  pub asked : ℕ
  pub slot : Numbered
  pub entered : Contains (entered_in partition x.stretch) made
  pub says : made.numbers ≡ root_numbers entry
  pub act : entry.act ≡ Unmap asked slot
  pub names : slot.slot ≡ name_of t

-- a title that a log segment says was uncut goes back by an entry of the same record
abbrev pub OnlyUnmapsUncut : List ToldRecord → Type 0
OnlyUnmapsUncut ts = (x : ToldRecord) (t : Title) → Contains ts x → Contains x.stretch (Uncut t) → Unmaps x t

-- If a title exists, no log says that it was uncut.
abbrev pub StandsUncut : Type 0
StandsUncut =
    (supers partitions p : ℕ) (lists : ℕ → List Made) (pools : List PoolEntry) (roots : Journals) (ts : List ToldRecord) (v : View)
    (t : Title) → AreLists lists pools roots ts → AreRoots partitions (played_in ts) pools roots →
    IsPoolOf supers (played_in ts) pools roots → AreLogs v ts → OnlyUnmapsUncut ts → IsStanding pools (roots p) t → uncut_of v t ≡ 0

-- If a title exists and its slot is out of the root, the seat has it free, if it has the length of its slot and no log names it.
abbrev pub OutIsFree : (SlotName → ℕ) → List PoolEntry → Journals → View → Type 0
OutIsFree sizes pools roots v =
    (p : ℕ) (t : Title) → IsStanding pools (roots p) t → IsNameOut (root_replayed pools (roots p) new_root) (name_of t) →
    sizes (name_of t) ≡ t.len → logged_of v (names t) ≡ 0 → 0 < free_of v t

-- What is known of the closing seat, which has what the roots' seats and the workers' seats had.
--   journals: each journal is one of a root
--   rooted: a slot that was made and is with its root is free in the seat, as the root's seat held it
--   waits: so is one that is out of its root and that no log names, as the seat of a worker held it, where it waited
pub record HasFree (sizes : SlotName → ℕ) (pools : List PoolEntry) (roots : Journals) (v : View) : Type 0 where
  pub journals : (p : ℕ) → IsJournal pools (roots p)
  pub rooted : (p : ℕ) (t : Title) → IsMade (root_replayed pools (roots p) new_root) t →
      (IsNameOut (root_replayed pools (roots p) new_root) (name_of t) → ⊥) → 0 < free_of v t
  pub waits : OutIsFree sizes pools roots v

-- The closing seat holds each title that exists and that no log names, if it has the length of its slot.
abbrev pub StandsHeld : Type 0
StandsHeld =
    (p : ℕ) (sizes : SlotName → ℕ) (pools : List PoolEntry) (roots : Journals) (v : View) (t : Title) → HasFree sizes pools roots v →
    IsStanding pools (roots p) t → sizes (name_of t) ≡ t.len → logged_of v (names t) ≡ 0 → HasTitle v t

-- the seat has the title of each slot on these lists free
abbrev pub ListedIsFree : ℕ → ℕ → (SlotName → ℕ) → Caches → View → Type 0
ListedIsFree threads partitions sizes all v =
    (k p class : ℕ) (m : Numbered) → k < threads → p < partitions → class < class_count → Contains (all k p class) m →
    0 < free_of v (title_of sizes m.slot)

-- What is known of a run whose threads have lists, and of the closing seat.
--   journals, pool, rising, few, slots, told, logs: clauses of the run, and its records with their logs
--   caches: the threads' lists are these at the end
--   listed: the title of a slot on a thread's list is free in the seat, as the worker's seat held it
pub record HasListed (supers partitions threads : ℕ) (sizes : SlotName → ℕ) (pools : List PoolEntry) (roots : Journals)
    (ts : List ToldRecord) (all : Caches) (v : View) : Type 0 where
  pub journals : AreRoots partitions (played_in ts) pools roots
  pub pool : IsPoolOf supers (played_in ts) pools roots
  pub rising : AreRising ts
  pub few : (x : ToldRecord) → Contains ts x → x.played.thread < threads
  pub slots : Slots (marks_of (played_in ts))
  pub told : AreTold sizes ts
  pub logs : AreLogs v ts
  pub caches : CachesTo partitions roots no_caches (played_in ts) all
  pub listed : ListedIsFree threads partitions sizes all v

-- A title that exists, is out of its root and is named by no log is on a thread's list, so the closing seat has it free.
abbrev pub ListedWait : Type 0
ListedWait =
    (supers partitions threads : ℕ) (sizes : SlotName → ℕ) (pools : List PoolEntry) (roots : Journals) (ts : List ToldRecord)
    (all : Caches) (v : View) → HasListed supers partitions threads sizes pools roots ts all v → OutIsFree sizes pools roots v
