-- Empty cells.
use Rattle.std.proofs.Common.{◌≡◌, ℕ, zero, suc, List, [], None, Option, length, replicate, slice_index_or, refl, sym, ◌∙◌, ap, subst, arith}
use Rattle.std.proofs.lemmas.List.{length-replicate}
use Rattle.pa_record.specs.declared.history.CellEntry.{CellEntry}
use Rattle.pa_record.specs.declared.history.Held.TheVariants.{Nothing}
use Rattle.pa_region.specs.declared.view.Made.{Made}
use Rattle.pa_region.specs.declared.view.View.{View}
use Rattle.pa_region.specs.Lists.{list_of}
use Rattle.pa_region.specs.Lending.{HostsKeeper}
use Rattle.pa_rules.specs.Cells.{IsChain}
use Rattle.pa_cells.specs.Handles.{ParkedHandle, held_as}
use Rattle.pa_cells.specs.Cells.{AreExchanges, held_after, cell_history, IsCells, empty_cells}

-- each member of a list that has one value is it, and so is what lies after its end
pub always : {A : Type 0} (n k : ℕ) (y : A) → slice_index_or (replicate n y) k y ≡ y
always zero k y = refl
always (suc n) zero y = refl
always (suc n) (suc k) y = always n k y

-- empty cells are cells
pub starts : (v : View) → HostsKeeper 5 v → list_of 5 v ≡ [] → IsCells (empty_cells v)
starts v hosts empty =
    let histories : (k : ℕ) → cell_history (replicate 64 []) k ≡ [] = λ k. always 64 k [] in
    record {
      cells = length-replicate {A = List CellEntry} 64 [];
      held = length-replicate {A = Option ParkedHandle} 64 None;
      host = hosts;
      exchanged = (
        [],
        subst (λ (l : List Made). AreExchanges l (replicate 64 []) []) (sym empty)
            (record { numbers = refl; cells = histories }),
      );
      chain = λ k. subst (λ (es : List CellEntry). IsChain Nothing es) (sym (histories k)) tt;
      holds = λ k. ap held_as (always 64 k None) ∙ sym (ap (λ (es : List CellEntry). held_after Nothing es) (histories k));
      few = λ k. let e = ap length (histories k) in omega arith;
    }
