-- What the tests keep.
use Rattle.std.specs.Prelude.{◌≡◌, ℕ, ◌*◌, ◌≤◌, []}
use Rattle.pa_record.specs.Pool.{PoolState}
use Rattle.pa_record.specs.Root.{Root}
use Rattle.pa_record.specs.Sound.{IsBornBelow}

-- at most that many steps were made of a placement without direct maps, over a pool with that many entries
pub record IsYoung (steps entries : ℕ) (r : Root) : Type 0 where
  pub turn : r.turn ≤ 32 * steps
  pub few : entries ≤ steps
  pub born : IsBornBelow entries r
  pub maps : r.maps ≡ []

-- at most that many entries were made of the pool, and the placement has only direct maps
pub record HasOnlyMaps (steps : ℕ) (pool : PoolState) (r : Root) : Type 0 where
  pub entries : pool.entries ≤ steps
  pub born : IsBornBelow pool.entries r
  pub spans : r.spans ≡ []
