-- What records lead to, and what the threads' lists have then.
use Rattle.std.specs.Prelude.{◌≡◌, ℕ, ◌+◌, ◌<◌, List, Option, Some, None, length, slice_index_or, take}
use Rattle.pa_record.specs.declared.report.Tally.{Tally}
use Rattle.pa_trace.specs.Limits.{most_partitions}
use Rattle.pa_rules.specs.declared.played.Played.{Played}
use Rattle.pa_rules.specs.declared.verdict.Place.TheVariants as places
use Rattle.pa_rules.specs.Roots.{Journals}
use Rattle.pa_rules.specs.HeapDemands.{CachesDemand}
use Rattle.pa_rules.specs.Caches.{Caches, CachesTo, no_caches}
use Rattle.pa_rules.specs.Lists.{no_tally}
use Rattle.pa_rules.specs.Report.{IsCached, cached_bytes, cached_slots, until}
use Rattle.pa_rules.specs.Tells.{TellsFirst}
use Rattle.pa_audit_records.specs.Cuts.{HasEach}

-- the first `end` records lead to these lists
abbrev pub HaveLed : ℕ → Journals → List Played → ℕ → Caches → Type 0
HaveLed partitions roots ps end all = CachesTo partitions roots no_caches (take end ps) all

-- each of the first `end` records meets the clause of the caches, and they lead to these lists
pub record CachesSoFar (partitions : ℕ) (roots : Journals) (ps : List Played) (all : Caches) (end : ℕ) : Type 0 where
  pub met : (i : ℕ) → i < end → CachesDemand partitions roots ps (places.Record i)
  pub led : HaveLed partitions roots ps end all

-- each of the first `end` records meets the clause of the caches and they lead to these lists,
-- or record i is the first that doesn't meet it
abbrev pub TellsPlayed : ℕ → Journals → List Played → Caches → ℕ → Option ℕ → Type 0
TellsPlayed partitions roots ps all end None = CachesSoFar partitions roots ps all end
TellsPlayed partitions roots ps all end (Some i) = TellsFirst (λ k. CachesDemand partitions roots ps (places.Record k)) (Some i)

-- the tally is that of the first threads' lists of partition p
pub record IsListed (threads : ℕ) (all : Caches) (p : ℕ) (tally : Tally) : Type 0 where
  pub slots : tally.slots ≡ cached_slots all p threads
  pub bytes : tally.bytes ≡ cached_bytes all p threads

-- the tallies are those of the first threads' lists of each of the four partitions
pub record HaveListed (threads : ℕ) (all : Caches) (tallies : List Tally) : Type 0 where
  pub many : length tallies ≡ most_partitions
  pub each : (p : ℕ) → p < most_partitions → IsListed threads all p (slice_index_or tallies p no_tally)

-- the tallies of the caches after these records
pub record AreCachedAt (partitions threads : ℕ) (roots : Journals) (xs : List Played) (tallies : List Tally) : Type 0 where
  pub many : length tallies ≡ most_partitions
  pub each : (p : ℕ) → p < most_partitions → IsCached partitions threads roots xs p (slice_index_or tallies p no_tally)

-- these are the tallies of the caches at the end of each phase
abbrev pub HaveCached : ℕ → ℕ → Journals → List Played → List (List Tally) → Type 0
HaveCached partitions threads roots ps cached =
    HasEach (λ i tallies. AreCachedAt partitions threads roots (until (i + 1) ps) tallies) cached
