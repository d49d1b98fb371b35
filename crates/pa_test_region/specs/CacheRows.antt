-- A cache that has the first slots of a row: what the tests that fill one keep.
use Rattle.std.specs.Prelude.{◌≡◌, ℕ, ◌+◌, ◌*◌, ◌<◌, length, All}
use Rattle.pa_slot.specs.declared.title.Title.{Title}
use Rattle.pa_region.specs.declared.view.View.{View}
use Rattle.pa_cache.specs.Chained.{CacheParts, HoldsList, list_in}
use Rattle.pa_test_region.specs.ChainRows.{IsRowOf}

-- the first 65 slots of the row are cut, and the seat has the list of a cache of the smallest class, which has the first n of them
pub record IsRowCached (n : ℕ) (v : View) (c : CacheParts) : Type 0 where
  pub row : IsRowOf 0 65 v
  pub has : HoldsList v c
  pub class : c.class ≡ 0
  pub count : length (list_in v c).titles ≡ n
  pub before : All (λ (t : Title). t.start < 16384 + 16 * n) (list_in v c).titles
