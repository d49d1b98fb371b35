-- What the plain pool keeps of the runs that are taken.
use Rattle.std.specs.Prelude.{◌+◌, ◌≤◌, Contains, AllPairs}
use Rattle.pa_record.specs.declared.taken.Taken.{Taken}
use Rattle.pa_record.specs.Pool.{PoolState, IsApart}

-- Each run that is taken lies in the region and isn't empty, and no two have a super page in common; and there are at
-- most 64 super pages.
pub record IsSoundPlan (s : PoolState) : Type 0 where
  pub few : s.supers ≤ 64
  pub some : (t : Taken) → Contains s.taken t → 1 ≤ t.count
  pub inside : (t : Taken) → Contains s.taken t → t.first + t.count ≤ s.supers
  pub apart : AllPairs (λ t u. IsApart t.first t.count u) s.taken
