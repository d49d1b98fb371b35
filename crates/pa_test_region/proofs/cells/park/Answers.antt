use Rattle.std.proofs.Common.{◌≡◌, [], ◌∷◌, sym, ◌∙◌, ap, subst}
use Rattle.pa_region.specs.declared.view.View.{View}
use Rattle.pa_region.specs.Views.{sealed_of}
use Rattle.pa_region.specs.Hands.{given_after}
use Rattle.pa_region.specs.Marks.{parcel_of}
use Rattle.pa_cells.specs.declared.handle.Handle.{Handle}
use Rattle.pa_cells.specs.Handles.{IsParked, handle_item}
use Rattle.pa_test_region.specs.CellSlots.{test_slot, test_handle}
use Rattle.pa_test_region.proofs.cells.park.Goals as goal

pub invariant_of-result : goal.invariant_of-result
invariant_of-result c =
    let view : c.hand-note.result.view ≡ given_after (parcel_of (handle_item c.args.own test_slot ∷ []) 0 []) c.args.seat.now.view = cc in
    subst (λ (h : Handle). IsParked (record { handle = h; own = c.args.own; note = c.hand-note.result })) (sym c.handle.ensures)
    (subst (λ (v : View). IsParked
    (record { handle = test_handle; own = c.args.own; note = record { region = c.hand-note.result.region; view = v } })) (sym view)
    (c.what_was_handed_can_wait.ensures.waits test_handle c.args.own c.hand-note.result.region 0 c.args.seat.now.view c.requires.made))

pub returns-clause-sealed : goal.returns-clause-sealed
returns-clause-sealed c t =
    let view : c.hand-note.result.view ≡ given_after (parcel_of (handle_item c.args.own test_slot ∷ []) 0 []) c.args.seat.now.view = cc in
    ap (λ (v : View). sealed_of v t) view
    ∙ c.what_was_handed_can_wait.ensures.sealed test_handle c.args.own c.hand-note.result.region 0 c.args.seat.now.view t
