-- What a line does to the pool: at most one entry more, which its only act names.
use Rattle.std.specs.Prelude.{◌≡◌, ℕ, ◌<◌, List, [], ◌∷◌, length, Some, None, Contains, slice_get}
use Rattle.std.specs.List.Sorted.{IsNonDecreasingBy}
use Rattle.pa_slot.specs.Run.{Slots}
use Rattle.pa_trace.specs.declared.script.Line.{Line}
use Rattle.pa_trace.specs.declared.script.Rules.{Rules}
use Rattle.pa_record.specs.declared.pool.PoolEntry.{PoolEntry}
use Rattle.pa_record.specs.declared.root.RootEntry.{RootEntry}
use Rattle.pa_record.specs.declared.root.RootAct.{RootAct}
use Rattle.pa_record.specs.Pool.{PoolState, PoolActFits, IsPool, new_pool, pool_replayed}
use Rattle.pa_record.specs.Root.{asked_by}
use Rattle.pa_rules.specs.declared.played.Played.{Played}
use Rattle.pa_rules.specs.Played.{AreLines, marks_of}
use Rattle.pa_rules.specs.Roots.{Journals, IsEntry, Names}
use Rattle.pa_rules.specs.Caches.{Cache, Caches}
use Rattle.pa_heap_effects.specs.Deeds.{Acts, IsPlacedTo, IsDeed}

-- the pool after these entries
abbrev pub pool_at : ℕ → List PoolEntry → PoolState
pool_at supers pools = pool_replayed pools (new_pool supers)

-- The pool before line n.
--   entered, sorted: its entries are in the order of their lines, which are below n
--   fits: each fits
--   named, once: each is named by one entry of a journal, which is of its partition and line
--   below: a journal names no other
pub record IsPooledTo (supers n : ℕ) (pools : List PoolEntry) (roots : Journals) : Type 0 where
  pub entered : (e : PoolEntry) → Contains pools e → e.line < n
  pub sorted : IsNonDecreasingBy (λ (e : PoolEntry). e.line) pools
  pub fits : IsPool supers pools
  pub named : (j : ℕ) (e : PoolEntry) → slice_get pools j ≡ Some e
      → (i : ℕ) × (f : RootEntry) × IsEntry roots e.partition i f × (asked_by f.act ≡ Some j) × (f.line ≡ e.line)
  pub below : (p i j : ℕ) → Names roots p i j → j < length pools
  pub once : (j p q i k : ℕ) → Names roots p i j → Names roots q k j → (p ≡ q) × (i ≡ k)

-- no act of the line names an entry of the pool
abbrev pub AsksNone : Acts → Type 0
AsksNone acts = (p : ℕ) (a : RootAct) → Contains (acts p) a → asked_by a ≡ None

-- Entry e of the pool is the line's and fits. The line has one act in its partition, which names it, and none in any other.
pub record AsksOnce (supers n : ℕ) (pools : List PoolEntry) (e : PoolEntry) (acts : Acts) : Type 0 where
  pub line : e.line ≡ n
  pub fits : PoolActFits pools e.partition e.act (pool_at supers pools)
  pub act : RootAct
  pub only : acts e.partition ≡ act ∷ []
  pub asked : asked_by act ≡ Some (length pools)
  pub none : (q : ℕ) → (q ≡ e.partition → ⊥) → acts q ≡ []

-- the entries that the line made of the pool: none, or one
abbrev pub Asks : ℕ → ℕ → List PoolEntry → List PoolEntry → Acts → Type 0
Asks supers n pools [] acts = AsksNone acts
Asks supers n pools (e ∷ []) acts = AsksOnce supers n pools e acts
Asks supers n pools (e ∷ f ∷ more) acts = ⊥

-- the effect of a line, with its entries of the pool
pub record IsDone (supers partitions n : ℕ) (x : Played) (pools more : List PoolEntry) (roots : Journals) (acts : Acts)
    (cache next : Cache) : Type 0 where
  pub deed : IsDeed partitions n x pools more roots acts cache next
  pub asks : Asks supers n pools more acts

-- the run before line n, whose records are those of the first lines of a trace with these rules,
-- and whose slots' steps are one run each
pub record IsSoFar (supers partitions n : ℕ) (ls : List Line) (ps : List Played) (pools : List PoolEntry) (roots : Journals)
    (all : Caches) : Type 0 where
  pub rules : Rules
  pub lines : AreLines rules ls ps
  pub slots : Slots (marks_of ps)
  pub placed : IsPlacedTo partitions n ps pools roots all
  pub pooled : IsPooledTo supers n pools roots
