use Rattle.std.proofs.Common.{◌≡◌, List, length, map, slice_get, Some, sym, ◌∙◌, ap, subst}
use Rattle.pa_record.specs.declared.history.CellEntry.{CellEntry}
use Rattle.pa_region.specs.declared.view.Made.{Made}
use Rattle.pa_cells.specs.Cells.{made_with_cell}
use Rattle.pa_cells.proofs.Histories.{stands_at}
use Rattle.pa_cells.proofs.laws.places_stay.Goals as goal

pub returns : goal.returns
returns c list before rest histories xs m x are is says =
    subst (λ (es : List CellEntry). slice_get es (length (made_with_cell x.cell before)) ≡ Some x.entry) (sym (are.cells x.cell))
    (stands_at c.one_entry_for_its_numbers.ensures.cell before rest m x xs
    (sym (ap (λ (l : List Made). map (λ (n : Made). n.numbers) l) is) ∙ are.numbers) says)
