use Rattle.std.proofs.Common.{◌≡◌, [], ◌∷◌, sym, ◌∙◌, ap, subst}
use Rattle.std.specs.Prelude.{nat_le}
use Rattle.pa_machine.specs.declared.event.Item.TheVariants as item
use Rattle.pa_region.specs.declared.view.View.{View}
use Rattle.pa_region.specs.Hands.{left_after}
use Rattle.pa_region.specs.Marks.{parcel_of}
use Rattle.pa_region.specs.Lending.{CanLend}
use Rattle.pa_test_region.specs.CellSlots.{test_slot}
use Rattle.pa_test_region.proofs.CellSlots.{first_unsealed, own_right, ref_right, both_left}
use Rattle.pa_test_region.proofs.cells.make_both.Goals as goal

pub returns-clause-ready : goal.returns-clause-ready
returns-clause-ready g c =
    let is : c.park-other.new.seat.view ≡ left_after (parcel_of (item.Ref test_slot ∷ []) 0 [])
    (left_after (parcel_of (item.Own test_slot ∷ []) 0 []) c.make_slot.new.seat.view) = cc in (
      c.park-other.ensures.regions.0 ∙ c.requires.region.0,
      subst (λ (v : View). CanLend v) (sym is) (both_left c.givers_lack_handles.ensures c.make_slot.new.seat.view c.make_slot.ensures.slot),
    )

pub returns-clause-own : goal.returns-clause-own
returns-clause-own g c = (
  c.park-own.ensures.regions.1 ∙ c.requires.region.0,
  own_right g.N.Name.plain_from c.park-own.result c.make_slot.new.seat.view
      (first_unsealed c.make_slot.new.seat.view c.make_slot.ensures.slot ∙ sym (ap (λ n. nat_le n 0) c.requires.plain))
      c.park-own.ensures.handle.0 c.park-own.ensures.handle.1 c.park-own.ensures.sealed,
)

pub returns-clause-other : goal.returns-clause-other
returns-clause-other g c = (
  c.park-other.ensures.regions.1 ∙ c.requires.region.0,
  ref_right g.N.Name.plain_from c.park-other.result c.park-other.ensures.handle.1 c.park-other.ensures.sealed,
)
