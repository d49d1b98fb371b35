-- A row of slots of 16 bytes in the first super page, and a chain of some of them: what the tests of chains keep.
use Rattle.std.specs.Prelude.{◌≡◌, ℕ, ◌+◌, ◌*◌, ◌<◌, ◌≤◌, List, All}
use Rattle.pa_slot.specs.declared.title.Title.{Title}
use Rattle.pa_region.specs.declared.view.View.{View}
use Rattle.pa_region.specs.Views.{free_of, HasEveryStake}
use Rattle.pa_region.specs.Cuts.{CanCut}
use Rattle.pa_link.specs.declared.chain.ChainParts.{ChainParts}
use Rattle.pa_link.specs.Chains.{IsChain}

-- the row's slot of this number, from 0, with this `born`
abbrev pub chain_slot : ℕ → ℕ → Title
chain_slot born n = record { start = 16384 + 16 * n; len = 16; born = born }

-- The first n slots of the row are cut, and those of the first 256 after them can be. The seat has every stake.
pub record IsRowOf (born n : ℕ) (v : View) : Type 0 where
  pub free : (k : ℕ) → k < n → 0 < free_of v (chain_slot born k)
  pub can : (k : ℕ) → n ≤ k → k < 256 → CanCut (chain_slot born k) v
  pub stakes : HasEveryStake v

-- the row's first n slots are cut, and a chain has some of them, from number `from` on
pub record IsRowChained (born n from : ℕ) (v : View) (c : ChainParts) : Type 0 where
  pub row : IsRowOf born n v
  pub size : c.slot_len ≡ 16
  pub few : c.len + from ≤ n
  pub titles : List Title
  pub chain : IsChain v c titles
  pub later : All (λ (t : Title). 16384 + 16 * from ≤ t.start) titles
