-- A run that goes on after a phase, and what remains of it for the report.
use Rattle.std.specs.Prelude.{◌≡◌, ℕ, ◌<◌, ◌≤◌, List, [], ◌∷◌, ◌++◌, Contains}
use Rattle.pa_record.specs.declared.pool.PoolEntry.{PoolEntry}
use Rattle.pa_record.specs.declared.report.Tally.{Tally}
use Rattle.pa_record.specs.declared.root.RootEntry.{RootEntry}
use Rattle.pa_record.specs.Census.{census}
use Rattle.pa_rules.specs.declared.played.Played.{Played}
use Rattle.pa_rules.specs.Roots.{Journals}
use Rattle.pa_rules.specs.Caches.{Caches, CachesTo, no_caches}
use Rattle.pa_rules.specs.Report.{until, cached_slots, cached_bytes, IsCached, AreUntil, HasCensus}
use Rattle.pa_heap_effects.specs.Deeds.{Acts, grown, root_at, IsPlacedTo}

-- what came to a run from line n on: records, entries of the pool, and entries of the journals, on lines from n on
pub record GoesOn (n : ℕ) (ps later : List Played) (pools more : List PoolEntry) (roots grows : Journals) : Type 0 where
  pub records : List Played
  pub played : later ≡ ps ++ records
  pub after : (x : Played) → Contains records x → n ≤ x.line
  pub entries : List PoolEntry
  pub pooled : more ≡ pools ++ entries
  pub journals : Journals
  pub grown : (p : ℕ) → grows p ≡ roots p ++ journals p
  pub below : (p : ℕ) (e : RootEntry) → Contains (journals p) e → n ≤ e.line

-- a run continues itself, and goes on with one more line
pub record RunGoesOn : Type 0 where
  pub here : (n : ℕ) (ps : List Played) (pools : List PoolEntry) (roots : Journals) → GoesOn n ps ps pools pools roots roots
  pub line : (n m : ℕ) (ps later : List Played) (x : Played) (pools more made : List PoolEntry) (roots grows : Journals) (acts : Acts) →
      n ≤ m → x.line ≡ m →
      GoesOn n ps later pools more roots grows → GoesOn n ps (later ++ x ∷ []) pools (more ++ made) roots (grown grows m acts)

-- the records lead to the lists to which they led, whatever came later
abbrev pub CachesStay : Type 0
CachesStay =
    (partitions n : ℕ) (ps later : List Played) (pools more : List PoolEntry) (roots grows : Journals) (all : Caches) →
    IsPlacedTo partitions n ps pools roots all →
    GoesOn n ps later pools more roots grows → CachesTo partitions grows no_caches ps all

-- What remains of a phase that was the last of the run before line n: its records and its entries are those up to its end, and
-- what its lists held and its roots had is what the report says.
pub record IsPhaseEnd (partitions phase : ℕ) (ps later : List Played) (pools more : List PoolEntry) (roots grows : Journals)
    (all : Caches) : Type 0 where
  pub records : until phase later ≡ ps
  pub entries : (p : ℕ) → AreUntil later phase (grows p) (roots p)
  pub census : (p : ℕ) → HasCensus later more grows phase p (census (root_at pools roots p))
  pub cached : (threads p : ℕ) (tally : Tally) → tally.slots ≡ cached_slots all p threads → tally.bytes ≡ cached_bytes all p threads →
      IsCached partitions threads grows (until phase later) p tally

-- if all records before line n are up to the end of a phase and all from it on
-- are of later phases, the end of the phase remains
abbrev pub PhaseEnds : Type 0
PhaseEnds =
    (partitions n m phase : ℕ) (ps later : List Played) (pools more : List PoolEntry) (roots grows : Journals) (all then : Caches) →
    IsPlacedTo partitions n ps pools roots all →
    IsPlacedTo partitions m later more grows then → GoesOn n ps later pools more roots grows →
    ((x : Played) → Contains ps x → x.phase ≤ phase) →
    ((x : Played) → Contains later x → n ≤ x.line → phase < x.phase) → IsPhaseEnd partitions phase ps later pools more roots grows all
