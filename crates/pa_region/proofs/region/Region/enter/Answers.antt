use Rattle.std.proofs.Common.{◌∙◌, sym, ap, subst}
use Rattle.atomic_table.specs.Seated.{TableId}
use Rattle.pa_region.specs.declared.view.View.{View}
use Rattle.pa_region.specs.Views.{stake_of}
use Rattle.pa_region.specs.Entries.{CanEnter, after_enter}
use Rattle.pa_region.specs.Shares.{Share, IsSeatSound}
use Rattle.pa_region.proofs.SeatStakes.{stakes_kept}
use Rattle.pa_region.proofs.EnterStep.{enter_stakes, enter_allowed, enter_sound}
use Rattle.pa_region.proofs.region.Region.enter.Goals as goal

pub enter_as-requires-clause-allowed : goal.enter_as-requires-clause-allowed
enter_as-requires-clause-allowed c =
    let can = subst (λ (h : Share). CanEnter c.args.keeper h.view) (sym c.seat.view_is) c.requires.able in
    enter_allowed c.args.keeper c.args.entry.now c.self.inside.table.shared.table_id.slots c.seat.inside.seat.id 0 c.seat.inside.seat.me can

pub invariant_of-seat : goal.invariant_of-seat
invariant_of-seat c =
    let can = subst (λ (h : Share). CanEnter c.args.keeper h.view) (sym c.seat.view_is) c.requires.able in
    let v = c.seat.inside.seat.me.0 in
    let told = c.enter_as.ensures.told.1 in (
      told.1 ∙ c.seat.invariant.0,
      subst (λ (z : TableId). IsSeatSound z c.enter_as.new.seat.me.0) (sym c.enter_as.ensures.seat.0)
          (subst (λ (u : View). IsSeatSound c.seat.inside.seat.table_id u) (sym told.0)
          (enter_sound c.seat.inside.seat.table_id c.args.keeper c.args.entry.now v c.seat.invariant.1)),
      stakes_kept c.seat.inside.stakes v c.enter_as.new.seat.me.0
          (λ k. ap (λ (u : View). stake_of u k) told.0 ∙ enter_stakes c.args.keeper c.args.entry.now v can.1 k) c.seat.invariant.2,
      c.enter_as.ensures.aware,
    )

pub returns-clause-region : goal.returns-clause-region
returns-clause-region c = c.enter_as.ensures.seat.0 ∙ ap (λ (h : Share). h.region) c.seat.view_is

pub returns-clause-view : goal.returns-clause-view
returns-clause-view c = c.enter_as.ensures.told.1.0 ∙ ap (λ (h : Share). after_enter c.args.keeper c.args.entry.now h.view) c.seat.view_is
