use Rattle.std.proofs.Common.{◌∙◌, sym, ap, subst}
use Rattle.atomic_table.specs.Seated.{TableId}
use Rattle.pa_region.specs.declared.view.View.{View}
use Rattle.pa_region.specs.Waiting.{unclean_of}
use Rattle.pa_region.specs.Hands.{CanHand, IsParted, left_after, given_after}
use Rattle.pa_region.specs.Marks.{AreStakes, parcel_of}
use Rattle.pa_region.specs.Shares.{Share, IsSeatSound}
use Rattle.pa_region.specs.Aware.{IsAware}
use Rattle.pa_region.proofs.AwarePart.{left_aware, given_aware}
use Rattle.pa_region.proofs.HandStep.{hand_parts, given_clean}
use Rattle.pa_region.proofs.HandSound.{left_sound, given_sound, hand_allowed}
use Rattle.pa_region.proofs.SeatStakes.{left_stakes, given_stakes}
use Rattle.pa_region.proofs.region.Region.hand.Goals as goal

pub hand_as-other-requires-clause-allowed : goal.hand_as-other-requires-clause-allowed
hand_as-other-requires-clause-allowed c =
    let p = parcel_of c.args.items.now c.args.budget c.args.marks.now in
    let can = subst (λ (h : Share). CanHand p h.view) (sym c.seat.view_is) c.requires.able in
    hand_allowed p c.seat.inside.seat.id c.seat.inside.seat.me.0 can

pub invariant_of-result : goal.invariant_of-result
invariant_of-result c =
    let p = parcel_of c.args.items.now c.args.budget c.args.marks.now in
    let v = c.seat.inside.seat.me.0 in
    let can = subst (λ (h : Share). CanHand p h.view) (sym c.seat.view_is) c.requires.able in
    let other = c.hand_as-other.ensures.other in
    let view = ap (λ m. m.0) other.1 in (
      ap (λ m. m.1) other.1,
      subst (λ (z : TableId). IsSeatSound z c.hand_as-other.result.me.0) (sym other.0)
          (subst (λ (w : View). IsSeatSound c.seat.inside.seat.table_id w) (sym view)
          (given_sound c.seat.inside.seat.table_id p v can c.seat.invariant.1)),
      subst (λ (w : View). AreStakes c.marked-given.result w) (sym view)
          (given_stakes p v c.seat.inside.stakes c.marked-given.result c.seat.invariant.2 c.marked-given.ensures),
      subst (λ (w : View). IsAware w) (sym view) (given_aware p v can c.seat.invariant.3),
    )

pub invariant_of-seat : goal.invariant_of-seat
invariant_of-seat c =
    let p = parcel_of c.args.items.now c.args.budget c.args.marks.now in
    let v = c.seat.inside.seat.me.0 in
    let can = subst (λ (h : Share). CanHand p h.view) (sym c.seat.view_is) c.requires.able in
    let mine = c.hand_as-other.ensures.seat in
    let view = ap (λ m. m.0) mine.2 in (
      ap (λ m. m.1) mine.2 ∙ c.seat.invariant.0,
      subst (λ (z : TableId). IsSeatSound z c.hand_as-other.new.seat.me.0) (sym mine.0)
          (subst (λ (w : View). IsSeatSound c.seat.inside.seat.table_id w) (sym view)
          (left_sound c.seat.inside.seat.table_id p v can c.seat.invariant.1)),
      subst (λ (w : View). AreStakes c.unmarked-seat-inside.result w) (sym view)
          (left_stakes p v c.seat.inside.stakes c.unmarked-seat-inside.result c.seat.invariant.2 c.unmarked-seat-inside.ensures),
      subst (λ (w : View). IsAware w) (sym view) (left_aware p v can c.seat.invariant.3),
    )

pub invariant_of-result-2 : goal.invariant_of-result-2
invariant_of-result-2 c =
    let p = parcel_of c.args.items.now c.args.budget c.args.marks.now in
    ap (λ m. unclean_of m.0) c.hand_as-other.ensures.other.1 ∙ given_clean p c.seat.inside.seat.me.0

pub returns-clause-left : goal.returns-clause-left
returns-clause-left c =
    let p = parcel_of c.args.items.now c.args.budget c.args.marks.now in
    ap (λ m. m.0) c.hand_as-other.ensures.seat.2 ∙ ap (λ (h : Share). left_after p h.view) c.seat.view_is

pub returns-clause-given : goal.returns-clause-given
returns-clause-given c =
    let p = parcel_of c.args.items.now c.args.budget c.args.marks.now in
    ap (λ m. m.0) c.hand_as-other.ensures.other.1 ∙ ap (λ (h : Share). given_after p h.view) c.seat.view_is

pub returns-clause-parted : goal.returns-clause-parted
returns-clause-parted c =
    let p = parcel_of c.args.items.now c.args.budget c.args.marks.now in
    let v = c.seat.inside.seat.me.0 in
    let can = subst (λ (h : Share). CanHand p h.view) (sym c.seat.view_is) c.requires.able in
    subst (λ (h : Share). IsParted h.view c.hand_as-other.new.seat.me.0 c.hand_as-other.result.me.0) c.seat.view_is
    (subst (λ (l : View). IsParted v l c.hand_as-other.result.me.0) (sym (ap (λ m. m.0) c.hand_as-other.ensures.seat.2))
    (subst (λ (r : View). IsParted v (left_after p v) r) (sym (ap (λ m. m.0) c.hand_as-other.ensures.other.1)) (hand_parts p v can)))
