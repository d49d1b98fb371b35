use Rattle.std.proofs.Common.{◌∙◌, sym, ap, subst}
use Rattle.atomic_table.specs.Seated.{TableId}
use Rattle.pa_region.specs.declared.view.View.{View}
use Rattle.pa_region.proofs.SeatStakes.{stakes_kept, stakes_equal}
use Rattle.pa_region.specs.Stores.{after_poison, CanPoison}
use Rattle.pa_region.specs.Shares.{Share, IsSeatSound}
use Rattle.pa_region.proofs.Writing.{poison_allowed, poison_inside, poison_sound}
use Rattle.pa_region.proofs.region.Region.poison_next.Goals as goal

pub poison_as-requires-clause-region : goal.poison_as-requires-clause-region
poison_as-requires-clause-region c =
    let can = subst (λ (h : Share). CanPoison c.args.title c.args.word h.view) (sym c.seat.view_is) c.requires.able in
    let same = ap (λ (h : Share). h.region) c.seat.view_is ∙ (c.requires.region ∙ sym c.self.view_is) in (
      same,
      poison_inside c.seat.inside.seat.table_id c.self.inside.table.shared.table_id c.args.title c.args.word
          c.content_index-place.result c.seat.inside.seat.me.0 same c.seat.invariant.1 can c.content_index-place.ensures,
    )

pub poison_as-requires-clause-allowed : goal.poison_as-requires-clause-allowed
poison_as-requires-clause-allowed c =
    let can = subst (λ (h : Share). CanPoison c.args.title c.args.word h.view) (sym c.seat.view_is) c.requires.able in
    poison_allowed c.args.title c.args.word c.self.inside.table.shared.table_id.slots c.seat.inside.seat.id c.content_index-place.result
    c.seat.inside.seat.me c.content_index-place.ensures can

pub invariant_of-seat : goal.invariant_of-seat
invariant_of-seat c =
    let told = c.poison_as.ensures.told in (
      told.1 ∙ c.seat.invariant.0,
      subst (λ (z : TableId). IsSeatSound z c.poison_as.new.seat.me.0) (sym c.poison_as.ensures.seat.0)
          (subst (λ (w : View). IsSeatSound c.seat.inside.seat.table_id w) (sym told.0)
          (poison_sound c.seat.inside.seat.table_id c.args.title c.args.word c.seat.inside.seat.me.0 c.seat.invariant.1)),
      stakes_kept c.seat.inside.stakes c.seat.inside.seat.me.0 c.poison_as.new.seat.me.0
          (stakes_equal c.seat.inside.seat.me.0 c.poison_as.new.seat.me.0 (ap (λ (w : View). w.stakes) told.0)) c.seat.invariant.2,
      c.poison_as.ensures.aware,
    )

pub returns-clause-region : goal.returns-clause-region
returns-clause-region c = c.poison_as.ensures.seat.0 ∙ ap (λ (h : Share). h.region) c.seat.view_is

pub returns-clause-view : goal.returns-clause-view
returns-clause-view c = c.poison_as.ensures.told.0 ∙ ap (λ (h : Share). after_poison c.args.title c.args.word h.view) c.seat.view_is
