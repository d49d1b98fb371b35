-- The exchange of a cell, under its lock.
use Rattle.std.proofs.Common.{◌≡◌, ℕ, [], ◌∷◌, length, Option, refl, sym, ◌∙◌, ap, subst}
use Rattle.pa_region.specs.declared.view.Entry.TheVariants.{Entered}
use Rattle.pa_region.specs.declared.view.View.{View}
use Rattle.pa_region.specs.Views.{least_stake}
use Rattle.pa_region.specs.Lending.{Lends}
use Rattle.pa_region.specs.Lists.{list_of}
use Rattle.pa_cells.specs.Handles.{ParkedHandle}
use Rattle.pa_cells.specs.Cells.{CellsHeld, MakesExchange, cell_holds, exchange_entry, exchange_numbers, made_with_cell}
use Rattle.pa_op_specs.specs.Stocks.{StockValue}
use Rattle.pa_thread_state.specs.Exchanging.{SwapsHandles}

-- the exchange under the lock, by what the call of the cells says
pub exchanges_is : {old new : CellsHeld} → (line cell index : ℕ) (given found : Option ParkedHandle) (s : StockValue) (w : View) →
    least_stake s.view.stakes ≡ s.thread →
    MakesExchange line cell given s.view w old new → index ≡ length (made_with_cell cell (list_of 5 old.view)) →
    found ≡ cell_holds old.parked cell →
    SwapsHandles line cell given found index s (record s { view = w })
exchanges_is {old} {new} line cell index given found s w least makes place is_found =
    let (m, noted) = makes.noted in
    record {
      older = list_of 5 old.view;
      made = m;
      list = noted.whole ∙ noted.list;
      says = noted.says ∙ ap (λ (f : Option ParkedHandle). exchange_numbers (record { cell = cell; entry = exchange_entry line given f }))
          (sym is_found);
      index_is = place;
      lends = subst (λ n. Lends n (Entered 5 m ∷ []) s.view w) least noted.lends;
      carries = noted.before;
      known = noted.known;
      same = refl;
    }
