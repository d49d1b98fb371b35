-- The laws of lines: the run with one more line, and what the run so far says of journals and pool.
use Rattle.std.specs.Prelude.{◌≡◌, ℕ, ◌+◌, List, [], ◌∷◌, ◌++◌}
use Rattle.pa_trace.specs.declared.script.Line.{Line}
use Rattle.pa_trace.specs.declared.script.Rules.{Rules}
use Rattle.pa_record.specs.declared.pool.PoolEntry.{PoolEntry}
use Rattle.pa_record.specs.Pool.{pool_next}
use Rattle.pa_rules.specs.declared.played.Played.{Played}
use Rattle.pa_rules.specs.Played.{AreLines}
use Rattle.pa_rules.specs.Roots.{Journals, AreRoots, IsPoolOf}
use Rattle.pa_rules.specs.Caches.{Cache, Caches, with_cache}
use Rattle.pa_heap_effects.specs.Deeds.{Acts, grown, root_at, root_after, IsPlacedTo, IsDeed}
use Rattle.pa_heap_effects.specs.Pooled.{pool_at, IsPooledTo, Asks}

-- at the start there are no records, no entries and no lists
pub record StartsEmpty : Type 0 where
  pub placed : (partitions n : ℕ) → IsPlacedTo partitions n [] [] (λ p. []) (λ t p class. [])
  pub pooled : (supers n : ℕ) → IsPooledTo supers n [] (λ p. [])

-- a run so far and the effect of its next line make the run up to the line after that
abbrev pub LineExtends : Type 0
LineExtends =
    (partitions n : ℕ) (ps : List Played) (x : Played) (pools more : List PoolEntry) (roots : Journals) (acts : Acts) (all : Caches)
    (next : Cache) →
    IsPlacedTo partitions n ps pools roots all → IsDeed partitions n x pools more roots acts (all x.thread) next →
    IsPlacedTo partitions (n + 1) (ps ++ x ∷ []) (pools ++ more) (grown roots n acts) (with_cache all x.thread next)

-- the pool before a line and the line's entries of it make the pool before the next line
abbrev pub PoolExtends : Type 0
PoolExtends =
    (supers n : ℕ) (pools more : List PoolEntry) (roots : Journals) (acts : Acts) → IsPooledTo supers n pools roots →
    Asks supers n pools more acts →
    IsPooledTo supers (n + 1) (pools ++ more) (grown roots n acts)

-- a line without a record, which begins a phase, changes nothing
pub record LinePasses : Type 0 where
  pub placed : (partitions n : ℕ) (ps : List Played) (pools : List PoolEntry) (roots : Journals) (all : Caches) →
      IsPlacedTo partitions n ps pools roots all →
      IsPlacedTo partitions (n + 1) ps pools roots all
  pub pooled : (supers n : ℕ) (pools : List PoolEntry) (roots : Journals) → IsPooledTo supers n pools roots →
      IsPooledTo supers (n + 1) pools roots

-- the roots and the pool after a line are those before it, after its acts
pub record LineReplays : Type 0 where
  pub roots : (partitions n : ℕ) (ps : List Played) (x : Played) (pools more : List PoolEntry) (roots : Journals) (acts : Acts)
      (all : Caches) (next : Cache) (p : ℕ) →
      IsPlacedTo partitions n ps pools roots all → IsDeed partitions n x pools more roots acts (all x.thread) next →
      root_at (pools ++ more) (grown roots n acts) p ≡ root_after (pools ++ more) (acts p) (root_at pools roots p)
  pub pool : (supers : ℕ) (pools : List PoolEntry) (e : PoolEntry) →
      pool_at supers (pools ++ e ∷ []) ≡ pool_next e.act (pool_at supers pools)

-- the journals and the pool of the run so far are those of its records
abbrev pub PlacedAreRoots : Type 0
PlacedAreRoots =
    (supers partitions n : ℕ) (rules : Rules) (ls : List Line) (ps : List Played) (pools : List PoolEntry) (roots : Journals)
    (all : Caches) →
    AreLines rules ls ps →
    IsPlacedTo partitions n ps pools roots all → IsPooledTo supers n pools roots → AreRoots partitions ps pools roots
    × IsPoolOf supers ps pools roots

-- journals and lists with the same members are the same
pub record SameIsPlaced : Type 0 where
  pub placed : (partitions n : ℕ) (ps : List Played) (pools : List PoolEntry) (roots others : Journals) (all lists : Caches) →
      IsPlacedTo partitions n ps pools roots all →
      ((p : ℕ) → others p ≡ roots p) → ((t p class : ℕ) → lists t p class ≡ all t p class) → IsPlacedTo partitions n ps pools others lists
  pub pooled : (supers n : ℕ) (pools : List PoolEntry) (roots others : Journals) → IsPooledTo supers n pools roots →
      ((p : ℕ) → others p ≡ roots p) →
      IsPooledTo supers n pools others
