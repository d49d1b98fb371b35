-- Registers and caches thread by thread, and usable bytes.
use Rattle.std.specs.Prelude.{◌≡◌, ℕ, ◌+◌, ◌<◌, List, [], ◌∷◌, ◌==◌, Bool, filter, length}
use Rattle.pa_slot.specs.declared.word.SlotName.{SlotName}
use Rattle.pa_region.specs.History.{Done}
use Rattle.pa_rules.specs.declared.played.Played.{Played}
use Rattle.pa_rules.specs.Registers.{Regs, AllRegs, Facts, Row, RowsTo, usable_in}
use Rattle.pa_rules.specs.Roots.{Journals}
use Rattle.pa_rules.specs.Caches.{Cache, Caches, CacheRow, CachesTo}
use Rattle.pa_logs.specs.Told.{ToldRecord, played_in}
use Rattle.pa_logs.specs.Touches.{AreTold}
use Rattle.pa_logs.specs.Steps.{AreSteps}

-- the records of a thread
abbrev pub is_by_thread : ℕ → Played → Bool
is_by_thread k x = x.thread == k

-- the records of thread k, in order
abbrev pub records_by : ℕ → List Played → List Played
records_by k ps = filter (is_by_thread k) ps

-- record by record of one thread, each answer is the one that its registers require
abbrev pub HasRows : Facts → Regs → List Played → Type 0
HasRows facts regs [] = Unit {0}
HasRows facts regs (p ∷ ps) = (next : Regs) × Row facts p.op regs p.answer next × HasRows facts next ps

-- the entries of their lines are those that its lists require
abbrev pub HasCacheRows : ℕ → Journals → Cache → List Played → Type 0
HasCacheRows partitions roots cache [] = Unit {0}
HasCacheRows partitions roots cache (x ∷ xs) =
    (next : Cache) × CacheRow partitions roots x x.answer cache next × HasCacheRows partitions roots next xs

-- If it is so of each thread, it is so of the run.
pub record ThreadsMerge : Type 0 where
  pub registers : (facts : Facts) (all : AllRegs) (ps : List Played) → ((k : ℕ) → HasRows facts (all k) (records_by k ps)) →
      (after : AllRegs) × RowsTo facts all ps after
  pub caches : (partitions : ℕ) (roots : Journals) (all : Caches) (ps : List Played) →
      ((k : ℕ) → HasCacheRows partitions roots (all k) (records_by k ps)) → (after : Caches) × CachesTo partitions roots all ps after

-- The usable bytes of a slot that was stepped on are all but its count word.
abbrev pub UsableFollows : Type 0
UsableFollows =
    (sizes : SlotName → ℕ) (ts : List ToldRecord) (s : SlotName) (history : List Done) → AreTold sizes ts →
    AreSteps (played_in ts) s history → 0 < length history → usable_in (played_in ts) s + 8 ≡ sizes s
