use Rattle.std.proofs.Common.{◌≡◌, ◌∙◌, sym, subst}
use Rattle.pa_slot.specs.declared.title.Title.{Title}
use Rattle.pa_slot.specs.declared.word.Step.TheVariants.{Copy}
use Rattle.pa_region.specs.declared.view.View.{View}
use Rattle.pa_region.specs.Moves.{CanCount, after_count}
use Rattle.pa_test_region.specs.CellSlots.{test_slot, HasTestSlot}
use Rattle.pa_test_region.proofs.CellSlots.{issued_view, copy_can, slot_made}
use Rattle.pa_test_region.proofs.cells.make_slot.Goals as goal

pub count_step-requires-2-clause-able : goal.count_step-requires-2-clause-able
count_step-requires-2-clause-able c =
    let is : c.count_step.new.seat.view ≡ issued_view c.args.seat.now.view c.as_slice.result.now c.count_step.result.0 = cc in
    subst (λ (t : Title). CanCount Copy t c.count_step.new.seat.view) (sym c.slot-3.ensures)
    (subst (λ (v : View). CanCount Copy test_slot v) (sym is)
    (copy_can c.entries_stand_in_logs.ensures c.args.seat.now.view c.as_slice.result.now c.count_step.result.0 c.requires.fresh))

pub returns-clause-slot : goal.returns-clause-slot
returns-clause-slot c =
    let is : c.count_step-2.new.seat.view ≡ after_count Copy test_slot c.count_step-2.result.0
    (issued_view c.args.seat.now.view c.as_slice.result.now c.count_step.result.0) = cc in
    subst HasTestSlot (sym is)
    (slot_made c.entries_stand_in_logs.ensures c.entries_stand_in_lists.ensures c.args.seat.now.view c.as_slice.result.now
    c.count_step.result.0 c.count_step-2.result.0 c.requires.fresh
    (c.as_slice.ensures.value ∙ c.root_numbers-numbers.ensures.numbers))
