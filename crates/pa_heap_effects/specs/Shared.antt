-- What the roots of all partitions have at once: no two of these titles share a byte.
use Rattle.std.specs.Prelude.{◌≡◌, ℕ, ◌⊎◌, List, Some, Contains, slice_get}
use Rattle.pa_slot.specs.declared.title.Title.{Title}
use Rattle.pa_record.specs.declared.pool.PoolEntry.{PoolEntry}
use Rattle.pa_record.specs.Pool.{IsPool}
use Rattle.pa_record.specs.Root.{Root, IsJournal, IsTitleOut}
use Rattle.pa_record.specs.Sound.{IsMade, TitlesApart}
use Rattle.pa_rules.specs.declared.played.Played.{Played}
use Rattle.pa_rules.specs.Roots.{Journals, Names, AreRoots, IsPoolOf}
use Rattle.pa_rules.specs.Caches.{Caches}
use Rattle.pa_heap_effects.specs.Deeds.{root_at, IsPlacedTo}
use Rattle.pa_heap_effects.specs.Pooled.{IsPooledTo}

-- The journals of all partitions replay over one pool, whose entries fit; each of these is named by an entry of its own
-- partition's journal, and by no other.
pub record SharePool (supers : ℕ) (pools : List PoolEntry) (roots : Journals) : Type 0 where
  pub fits : IsPool supers pools
  pub journals : (p : ℕ) → IsJournal pools (roots p)
  pub named : (j : ℕ) (e : PoolEntry) → slice_get pools j ≡ Some e → (i : ℕ) × Names roots e.partition i j
  pub once : (j p q i k : ℕ) (e : PoolEntry) → slice_get pools j ≡ Some e → Names roots p i j → Names roots q k j → (p ≡ q) × (i ≡ k)

-- the title exists: a slot that was made, whether or not it is out, or a direct map that is mapped
abbrev pub IsThere : Root → Title → Type 0
IsThere r t = IsMade r t ⊎ Contains r.maps t

-- the titles, of partitions p and q, are one title of one partition, or share no byte
abbrev pub AreOneOrApart : ℕ → ℕ → Title → Title → Type 0
AreOneOrApart p q t u = ((p ≡ q) × (t ≡ u)) ⊎ TitlesApart t u

-- Two titles that exist at once, of whichever partitions, are one or share no byte, and so are two that are out. The
-- journals of a run share its pool, and so do those of a run so far.
pub record TitlesShareNoByte : Type 0 where
  pub there : (supers p q : ℕ) (pools : List PoolEntry) (roots : Journals) (t u : Title) → SharePool supers pools roots →
      IsThere (root_at pools roots p) t → IsThere (root_at pools roots q) u → AreOneOrApart p q t u
  pub out : (supers p q : ℕ) (pools : List PoolEntry) (roots : Journals) (t u : Title) → SharePool supers pools roots →
      IsTitleOut (root_at pools roots p) t → IsTitleOut (root_at pools roots q) u → AreOneOrApart p q t u
  pub of_run : (supers partitions : ℕ) (ps : List Played) (pools : List PoolEntry) (roots : Journals) →
      AreRoots partitions ps pools roots → IsPoolOf supers ps pools roots → SharePool supers pools roots
  pub so_far : (supers partitions n : ℕ) (ps : List Played) (pools : List PoolEntry) (roots : Journals) (all : Caches) →
      IsPlacedTo partitions n ps pools roots all → IsPooledTo supers n pools roots → SharePool supers pools roots
