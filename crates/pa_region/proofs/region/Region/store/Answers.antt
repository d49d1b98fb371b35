use Rattle.std.proofs.Common.{◌/◌, ◌∙◌, refl, sym, ap, subst}
use Rattle.atomic_table.specs.Seated.{TableId}
use Rattle.pa_region.specs.declared.view.View.{View}
use Rattle.pa_region.proofs.SeatStakes.{stakes_kept, stakes_equal}
use Rattle.pa_region.specs.Stores.{after_store, CanStore, StoreTells}
use Rattle.pa_region.specs.Shares.{Share, IsSeatSound}
use Rattle.pa_region.proofs.Writing.{store_allowed, store_inside, store_sound}
use Rattle.pa_region.proofs.region.Region.store.Goals as goal

pub store_as-requires-clause-region : goal.store_as-requires-clause-region
store_as-requires-clause-region c =
    let can = subst (λ (h : Share). CanStore c.args.at h.view) (sym c.seat.view_is) c.requires.able in
    let same = ap (λ (h : Share). h.region) c.seat.view_is ∙ (c.requires.region ∙ sym c.self.view_is) in (
      same,
      store_inside c.seat.inside.seat.table_id c.self.inside.table.shared.table_id c.args.at
          (c.args.at / 8) c.seat.inside.seat.me.0 same c.seat.invariant.1 can refl,
    )

pub store_as-requires-clause-allowed : goal.store_as-requires-clause-allowed
store_as-requires-clause-allowed c =
    let can = subst (λ (h : Share). CanStore c.args.at h.view) (sym c.seat.view_is) c.requires.able in
    store_allowed c.args.at c.args.value c.self.inside.table.shared.table_id.slots c.seat.inside.seat.id
    (c.args.at / 8) c.seat.inside.seat.me refl can

pub invariant_of-seat : goal.invariant_of-seat
invariant_of-seat c =
    let told = c.store_as.ensures.told.0 in (
      told.1 ∙ c.seat.invariant.0,
      subst (λ (z : TableId). IsSeatSound z c.store_as.new.seat.me.0) (sym c.store_as.ensures.seat.0)
          (subst (λ (w : View). IsSeatSound c.seat.inside.seat.table_id w) (sym told.0)
          (store_sound c.seat.inside.seat.table_id c.args.at c.args.value c.seat.inside.seat.me.0 c.seat.invariant.1)),
      stakes_kept c.seat.inside.stakes c.seat.inside.seat.me.0 c.store_as.new.seat.me.0
          (stakes_equal c.seat.inside.seat.me.0 c.store_as.new.seat.me.0 (ap (λ (w : View). w.stakes) told.0)) c.seat.invariant.2,
      c.store_as.ensures.aware,
    )

pub returns-clause-region : goal.returns-clause-region
returns-clause-region c = c.store_as.ensures.seat.0 ∙ ap (λ (h : Share). h.region) c.seat.view_is

pub returns-clause-view : goal.returns-clause-view
returns-clause-view c = c.store_as.ensures.told.0.0 ∙ ap (λ (h : Share). after_store c.args.at c.args.value h.view) c.seat.view_is

pub returns-clause-owns : goal.returns-clause-owns
returns-clause-owns c = subst (λ (h : Share). StoreTells c.args.at h.view c.store_as.new.seat.me.0) c.seat.view_is c.store_as.ensures.told.1
