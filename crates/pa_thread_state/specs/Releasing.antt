-- How a reset or a free changes a thread state, and what becomes of a slot that its step returns.
use Rattle.std.specs.Prelude.{◌≡◌, ℕ, ◌⊎◌, true}
use Rattle.pa_slot.specs.declared.word.Step.{Step}
use Rattle.pa_slot.specs.Run.{IsReturning}
use Rattle.pa_record.specs.declared.entry.Seen.{Seen}
use Rattle.pa_region.specs.declared.view.View.{View}
use Rattle.pa_cells.specs.declared.handle.Handle.{Handle}
use Rattle.pa_op_specs.specs.Stocks.{StockRegister, StockValue}
use Rattle.pa_thread_state.specs.Changes.{LetsGo, IsPut, NeedsRoot}
use Rattle.pa_thread_state.specs.Homing.{IsSettled}

-- A slot that a step returned is where it belongs: at the front of its list, which had room, or settled, if it needed the root.
abbrev pub IsBroughtBack : (line : ℕ) → Handle → (before after : StockValue) → Type 0
IsBroughtBack line h before after = IsPut true h before after ⊎ (NeedsRoot h before × IsSettled line h before after)

-- The seat let go of the handle of a register, by a reset or a free that found this when its view was `v`. If that returned the slot,
-- the slot came back. Else nothing more was done.
pub record Releases (line : ℕ) (step : Step) (h : Handle) (reg : ℕ) (instead : StockRegister) (v : View) (seen : Seen)
    (before after : StockValue) : Type 0 where
  pub between : StockValue
  pub gone : LetsGo step h reg instead v seen before between
  pub back :
      (IsReturning step seen.found.0 × IsBroughtBack line h between after)
      ⊎ ((¬ IsReturning step seen.found.0) × (after ≡ between))
