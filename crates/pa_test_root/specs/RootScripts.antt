-- What the tests keep.
use Rattle.std.specs.Prelude.{◌≢◌, ℕ, ◌*◌, ◌≤◌, List, [], ◌∷◌, length, AllPairs, Contains}
use Rattle.pa_slot.specs.declared.title.Title.{Title}
use Rattle.pa_region.specs.declared.view.View.{View}
use Rattle.pa_record.specs.Root.{Root}
use Rattle.pa_record.specs.Sound.{IsBornBelow}
use Rattle.pa_root.specs.Handing.{HasOnly, HasSeenFill, HasSeenMap}

-- A note has these slots, one at least and each once, and nothing else, and has seen a fill of the root that names each.
pub record CanGoBack (p : ℕ) (v : View) (titles : List Title) : Type 0 where
  pub some : 1 ≤ length titles
  pub has : HasOnly titles v
  pub once : AllPairs ◌≢◌ titles
  pub named : (t : Title) → Contains titles t → HasSeenFill p v t

-- A note has this direct map's title and nothing else, and has seen the root's entry that made it.
pub record CanMapGoBack (p : ℕ) (v : View) (t : Title) : Type 0 where
  pub has : HasOnly (t ∷ []) v
  pub named : HasSeenMap p v t

-- at most this many steps were made of a placement over a pool with that many entries
pub record IsPlayed (steps entries : ℕ) (r : Root) : Type 0 where
  pub turn : r.turn ≤ 32 * steps
  pub few : entries ≤ steps
  pub born : IsBornBelow entries r
