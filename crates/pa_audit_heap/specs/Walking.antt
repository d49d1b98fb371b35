-- A walk over a journal, entry by entry.
use Rattle.std.specs.Prelude.{◌≡◌, ℕ, ◌+◌, ◌<◌, ◌≤◌, ◌^◌, ◌⊎◌, max, Bool, true, false, List, Some, All, length, map, take, slice_get}
use Rattle.pa_record.specs.declared.census.Census.{Census}
use Rattle.pa_record.specs.declared.pool.PoolEntry.{PoolEntry}
use Rattle.pa_record.specs.declared.root.RootEntry.{RootEntry}
use Rattle.pa_rules.specs.declared.played.Played.{Played}
use Rattle.pa_rules.specs.declared.verdict.Place.TheVariants as places
use Rattle.pa_rules.specs.HeapDemands.{RootsDemand}
use Rattle.pa_rules.specs.Report.{InPhases}
use Rattle.pa_audit_records.specs.Cuts.{HasEach}
use Rattle.pa_audit_heap.specs.declared.walk.Walk.{Walk}
use Rattle.pa_audit_heap.specs.Censuses.{HaveCensuses}
use Rattle.pa_audit_heap.specs.Ordered.{HasSeen}
use Rattle.pa_audit_heap.specs.Replaying.{IsReplayed}

-- the censuses that were there, and this one once more for each further phase up to that one
pub record AreFilledUp (c : Census) (to : ℕ) (before after : List Census) : Type 0 where
  pub many : length after ≡ max to (length before)
  pub each : HasEach (λ i d. (slice_get before i ≡ Some d) ⊎ ((length before ≤ i) × (d ≡ c))) after

-- The entries are of phases up to the last one. What the root has at the end of each phase that is over before that one was
-- counted; only phases of the trace are.
pub record AreCounted (phases : ℕ) (ps : List Played) (pools : List PoolEntry) (es : List RootEntry) (last : ℕ)
    (censuses : List Census) : Type 0 where
  pub told : HaveCensuses ps pools (λ p. es) 0 censuses
  pub low : All (InPhases ps last) es
  pub few : length censuses ≤ phases
  pub over : (length censuses ≡ 0) ⊎ (length censuses < last)
  pub all : (last ≤ length censuses + 1) ⊎ (phases ≤ length censuses)

-- the first j entries were walked over, each of which met its clause
pub record IsWalked (supers phases : ℕ) (ps : List Played) (pools : List PoolEntry) (es : List RootEntry) (j : ℕ) (w : Walk) : Type 0 where
  pub seen : HasSeen ps (map (λ (e : RootEntry). e.line) es) j w.order
  pub replayed : IsReplayed supers pools es j w.replay w.least
  pub bound : w.least ≤ 2 ^ 32
  pub counted : AreCounted phases ps pools (take j es) w.order.phase w.censuses

-- With true, entry j of partition p's journal, which has these entries, meets its clause and was walked over.
-- With false, it doesn't meet it.
abbrev pub TellsWalk : ℕ → ℕ → ℕ → List Played → List PoolEntry → ℕ → List RootEntry → ℕ → Walk → Bool → Type 0
TellsWalk supers partitions phases ps pools p es j w true =
    RootsDemand partitions ps pools (λ q. es) (places.Root p j) × IsWalked supers phases ps pools es (j + 1) w
TellsWalk supers partitions phases ps pools p es j w false = RootsDemand partitions ps pools (λ q. es) (places.Root p j) → ⊥
