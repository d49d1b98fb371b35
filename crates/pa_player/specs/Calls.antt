-- What a call of the placement leaves once the pool's entry is recorded, and what is put into a list of it.
use Rattle.std.specs.Prelude.{◌≡◌, ℕ, List, [], ◌∷◌, Option}
use Rattle.pa_slot.specs.declared.title.Title.{Title}
use Rattle.pa_record.specs.declared.numbered.Numbered.{Numbered}
use Rattle.pa_record.specs.declared.root.RootAct.TheVariants.{Fill}
use Rattle.pa_record.specs.Pool.{PoolState}
use Rattle.pa_record.specs.Root.{Root}
use Rattle.pa_place.specs.declared.placed.Placed.{Placed}
use Rattle.pa_place.specs.Placed.{MapDid}
use Rattle.pa_player.specs.Player.{Player}
use Rattle.pa_player.specs.Changes.{ArePut, acted, placed_in, asked_in}
use Rattle.pa_player.specs.Playing.{root_of}

-- slots that left a root were put into a list, and the fill was recorded
pub record IsFillTold (q at class : ℕ) (pool : Option ℕ) (titles : List Title) (p r : Player) : Type 0 where
  pub put : Player
  pub slots : List Numbered
  pub puts : ArePut q at class titles p put slots
  pub acted : r ≡ acted q (Fill class pool slots ∷ []) put

-- a direct map of that many bytes, in that many super pages, was made
pub record IsMapTaken (q len supers : ℕ) (p r : Player) (placed : Placed) : Type 0 where
  pub plan : PoolState
  pub after : Root
  pub did : MapDid len p.heap.pool plan (root_of p q) after placed
  pub taken : r ≡ asked_in q supers placed.titles.items placed.pool (placed_in q after plan p)
