-- What the roots have at the end of each phase.
use Rattle.std.specs.Prelude.{◌≡◌, ℕ, ◌+◌, ◌≤◌, List, length}
use Rattle.pa_record.specs.declared.census.Census.{Census}
use Rattle.pa_record.specs.declared.pool.PoolEntry.{PoolEntry}
use Rattle.pa_rules.specs.declared.played.Played.{Played}
use Rattle.pa_rules.specs.Report.{HasCensus}
use Rattle.pa_rules.specs.Roots.{Journals}
use Rattle.pa_audit_records.specs.Cuts.{HasEach}

-- what partition p's root has at the end of each phase
abbrev pub HaveCensuses : List Played → List PoolEntry → Journals → ℕ → List Census → Type 0
HaveCensuses ps pools roots p censuses = HasEach (λ i c. HasCensus ps pools roots (i + 1) p c) censuses

-- what the root of each of the first partitions has at the end of each of the first phases
pub record HaveAllCensuses (partitions phases : ℕ) (ps : List Played) (pools : List PoolEntry) (roots : Journals)
    (all : List (List Census)) : Type 0 where
  pub many : partitions ≤ length all
  pub each : HasEach (λ p censuses. HaveCensuses ps pools roots p censuses × (length censuses ≡ phases)) all
