use Rattle.std.proofs.Common.{List, [], ◌∙◌, sym, subst, ap}
use Rattle.std.specs.Prelude.{◌<◌}
use Rattle.std.proofs.lemmas.List.Elements.{All-contains}
use Rattle.pa_slot.specs.declared.title.Title.{Title}
use Rattle.pa_machine.specs.declared.event.Item.{Item}
use Rattle.pa_region.specs.Views.{free_of}
use Rattle.pa_region.specs.Hands.{CanHand, left_after, given_after}
use Rattle.pa_region.specs.Marks.{parcel_of}
use Rattle.pa_root.proofs.Parcels.{can_hand}
use Rattle.pa_thread_state.proofs.giving.hand_free.Goals as goal

pub hand-requires-clause-able : goal.hand-requires-clause-able
hand-requires-clause-able c =
    let ts = c.args.titles.now in
    let v = c.args.seat.now.view in
    subst (λ xs. CanHand (parcel_of xs 0 []) v) (sym c.free_items-items.ensures.items)
    (can_hand ts v c.requires.once (λ t among. All-contains (λ (u : Title). 0 < free_of v u) ts t c.requires.free among))

pub returns-clause-left : goal.returns-clause-left
returns-clause-left c =
    c.hand.ensures.left ∙ ap (λ (xs : List Item). left_after (parcel_of xs 0 []) c.args.seat.now.view) c.free_items-items.ensures.items

pub returns-clause-given : goal.returns-clause-given
returns-clause-given c =
    c.hand.ensures.given ∙ ap (λ (xs : List Item). given_after (parcel_of xs 0 []) c.args.seat.now.view) c.free_items-items.ensures.items
