-- The three parts of an exchange: a register's handle is handed over, a cell gets it and gives what it had, and that is taken in.
use Rattle.std.specs.Prelude.{◌≡◌, ℕ, ◌≤◌, List, [], ◌∷◌, ◌++◌, Bool, if◌then◌else◌, length, Option, Some, None, slice_set}
use Rattle.pa_slot.specs.declared.title.Title.{Title}
use Rattle.pa_region.specs.declared.view.Entry.TheVariants.{Entered}
use Rattle.pa_region.specs.declared.view.Made.{Made}
use Rattle.pa_region.specs.Views.{free_of, own_of, ref_of, stake_of, seen_of, seen_among}
use Rattle.pa_region.specs.Lists.{list_of}
use Rattle.pa_region.specs.Takes.{log_of}
use Rattle.pa_region.specs.Aware.{IsAware}
use Rattle.pa_region.specs.Hands.{Parcel, left_after, given_after, united}
use Rattle.pa_region.specs.Lending.{Lends}
use Rattle.pa_region.specs.Marks.{parcel_of}
use Rattle.pa_cells.specs.declared.handle.Handle.{Handle}
use Rattle.pa_cells.specs.Handles.{ParkedHandle, IsParked, handle_item}
use Rattle.pa_cells.specs.Cells.{exchange_numbers, exchange_entry, made_with_cell}
use Rattle.pa_rules.specs.declared.register.Register.TheVariants.{Empty, Own, Ref}
use Rattle.pa_op_specs.specs.Stocks.{StockRegister, StockValue, HasNoHandle, register_in}

-- the register that owns this slot, or points to it
abbrev pub handle_register : Bool → Handle → StockRegister
handle_register own h = if own then Own h else Ref h

-- the register that has this handle, as owner or not
abbrev pub register_of : ParkedHandle → StockRegister
register_of p = handle_register p.own p.handle

-- the register that has what was found, empty if nothing was
abbrev pub found_register : Option ParkedHandle → StockRegister
found_register None = Empty
found_register (Some p) = register_of p

-- what is handed over for a handle, and nothing else
abbrev pub handle_parcel : ParkedHandle → Parcel
handle_parcel p = parcel_of (handle_item p.own p.handle.title ∷ []) 0 []

-- A register's handle was handed over, and the register is empty, or it had no handle, and nothing was done.
abbrev pub Parks : ℕ → Option ParkedHandle → (before after : StockValue) → Type 0
Parks reg None before after = (after ≡ before) × HasNoHandle (register_in before.registers reg)
Parks reg (Some p) before after =
    (register_in before.registers reg ≡ register_of p)
    × (p.note.view ≡ given_after (handle_parcel p) before.view)
    × (after ≡ record before { view = left_after (handle_parcel p) before.view; registers = slice_set before.registers reg Empty })

-- A cell got what was given, on this line, and gave what it had. The entry is after those that were made before it, and the index is
-- how many of them are of the cell. The seat lent its stake for it, and carries on with all it had.
pub record SwapsHandles (line cell : ℕ) (given found : Option ParkedHandle) (index : ℕ) (before after : StockValue) : Type 0 where
  pub older : List Made
  pub made : Made
  pub list : list_of 5 after.view ≡ older ++ made ∷ []
  pub says : made.numbers ≡ exchange_numbers (record { cell = cell; entry = exchange_entry line given found })
  pub index_is : index ≡ length (made_with_cell cell older)
  pub lends : Lends before.thread (Entered 5 made ∷ []) before.view after.view
  pub carries : (t : Title) → seen_of before.view t ≤ seen_among t made.seen
  pub known : (t : Title) → seen_among t made.seen ≤ seen_of after.view t
  pub same : after ≡ record before { view = after.view }

-- A handle was taken in, and the register has it.
pub record TakesHandleIn (reg : ℕ) (p : ParkedHandle) (before after : StockValue) : Type 0 where
  pub parked : IsParked p
  pub aware : IsAware p.note.view
  pub long : length before.view.words ≡ length p.note.view.words
  pub after_is : after ≡ record before { view = united before.view p.note.view; registers = slice_set before.registers reg (register_of p) }

-- What was found was taken in, and the register has it. If nothing was found, the register is empty.
abbrev pub TakesIn : ℕ → Option ParkedHandle → (before after : StockValue) → Type 0
TakesIn reg None before after = after ≡ record before { registers = slice_set before.registers reg Empty }
TakesIn reg (Some p) before after = TakesHandleIn reg p before after

-- Nothing was done but that a handle went out and came back. The registers and the lists are the same. The seat has each title, each
-- stake and its log, and the budget as before, and has seen the same numbers and lists.
pub record IsUndone (before after : StockValue) : Type 0 where
  pub thread : after.thread ≡ before.thread
  pub partitions : after.partitions ≡ before.partitions
  pub plain : after.plain_from ≡ before.plain_from
  pub registers : after.registers ≡ before.registers
  pub caches : after.caches ≡ before.caches
  pub frees : (t : Title) → free_of after.view t ≡ free_of before.view t
  pub owns : (t : Title) → own_of after.view t ≡ own_of before.view t
  pub refs : (t : Title) → ref_of after.view t ≡ ref_of before.view t
  pub stakes : (k : ℕ) → stake_of after.view k ≡ stake_of before.view k
  pub logs : (k : ℕ) → log_of k after.view ≡ log_of k before.view
  pub lists : (k : ℕ) → list_of k after.view ≡ list_of k before.view
  pub seen : (t : Title) → seen_of after.view t ≡ seen_of before.view t
  pub budget : after.view.budget ≡ before.view.budget
