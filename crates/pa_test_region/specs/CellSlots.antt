-- The slot of the tests: a direct map of 32 bytes in partition 0, and what their seats have of it.
use Rattle.std.specs.Prelude.{◌≡◌, ℕ, ◌<◌, false, [], ◌∷◌, Option, None, IfSome, slice_index}
use Rattle.atomic_table.specs.Seated.{TableId}
use Rattle.pa_slot.specs.declared.title.Title.{Title}
use Rattle.pa_slot.specs.declared.title.OwnState.TheVariants.{Clean}
use Rattle.pa_record.specs.declared.root.RootEntry.{RootEntry}
use Rattle.pa_record.specs.declared.root.RootAct.TheVariants.{Map}
use Rattle.pa_region.specs.declared.view.View.{View}
use Rattle.pa_region.specs.Views.{stake_of, HasStake}
use Rattle.pa_region.specs.Lists.{keeper_of, list_of}
use Rattle.pa_region.specs.Cuts.{CanCut}
use Rattle.pa_region.specs.Shares.{Share}
use Rattle.pa_region.specs.Lending.{CanLend}
use Rattle.pa_cells.specs.declared.handle.Handle.{Handle}
use Rattle.pa_cells.specs.Handles.{HasSeenMade, ParkedHandle}
use Rattle.pa_cells.specs.Cells.{IsOf}

-- the slot's title: 32 bytes from byte 16384 on, out of what the pool's entry 0 took
abbrev pub test_slot : Title
test_slot = record { start = 16384; len = 32; born = 0 }

-- the handle of the slot: in partition 0, with no class since it is a direct map
abbrev pub test_handle : Handle
test_handle = record { title = test_slot; partition = 0; class = None }

-- the entry of the root's list that makes the slot, on line 2
abbrev pub test_entry : RootEntry
test_entry = record { line = 2; act = Map 0 (record { start = 16384; born = 0 }) 32 }

-- a seat that can make the slot: nothing was cut out of its bytes, which are 0, and it has keeper 0, a stake and a budget
pub record IsFresh (v : View) : Type 0 where
  pub raw : CanCut test_slot v
  pub frees : v.frees ≡ []
  pub owns : v.owns ≡ []
  pub refs : v.refs ≡ []
  pub zeros : (word : ℕ) → slice_index v.words word ≡ 0
  pub keeper : 0 < keeper_of v 0
  pub stake : HasStake v
  pub budget : v.budget ≡ 16

-- a seat that made the slot: it has the Own, which isn't sealed, and one Ref, and a stake, and has seen how the slot was made
pub record HasTestSlot (v : View) : Type 0 where
  pub owns : v.owns ≡ record { title = test_slot; state = Clean; idle = false; sealed = false } ∷ []
  pub refs : v.refs ≡ test_slot ∷ []
  pub stake : HasStake v
  pub made : HasSeenMade test_handle v

-- a note from which cells are made
pub record IsForCells (v : View) : Type 0 where
  pub keeper : 0 < keeper_of v 5
  pub stakes : (k : ℕ) → stake_of v k ≡ 0
  pub list : list_of 5 v ≡ []

-- a seat that can exchange
abbrev pub IsReadyIn : TableId → Share → Type 0
IsReadyIn region s = (s.region ≡ region) × CanLend s.view

-- what came out of a cell is of this region, and sealed exactly if its partition is plain
abbrev pub IsFoundIn : TableId → ℕ → Option ParkedHandle → Type 0
IsFoundIn region plain_from found = IfSome found (IsOf region plain_from)
