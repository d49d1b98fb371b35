use Rattle.std.proofs.Common.{◌/◌, ◌∙◌, sym, ap, subst}
use Rattle.atomic_table.specs.Seated.{TableId}
use Rattle.pa_region.specs.declared.view.View.{View}
use Rattle.pa_region.specs.Views.{stake_of}
use Rattle.pa_region.specs.Shares.{Share, IsSeatSound}
use Rattle.pa_region.specs.Cuts.{CanUncut, after_uncut}
use Rattle.pa_region.proofs.SeatStakes.{stakes_kept}
use Rattle.pa_region.proofs.UncutStep.{uncut_stakes}
use Rattle.pa_region.proofs.CutSound.{uncut_allowed, uncut_sound}
use Rattle.pa_region.proofs.region.Region.uncut.Goals as goal

pub title_as-requires-clause-allowed : goal.title_as-requires-clause-allowed
title_as-requires-clause-allowed c =
    let can = subst (λ (h : Share). CanUncut c.args.title h.view) (sym c.seat.view_is) c.requires.able in
    uncut_allowed c.args.title c.self.inside.table.shared.table_id.slots c.seat.inside.seat.id
    (c.count_byte-at.result / 8) c.seat.inside.seat.me can

pub invariant_of-seat : goal.invariant_of-seat
invariant_of-seat c =
    let can = subst (λ (h : Share). CanUncut c.args.title h.view) (sym c.seat.view_is) c.requires.able in
    let v = c.seat.inside.seat.me.0 in
    let told = c.title_as.ensures.told.1 in (
      told.1 ∙ c.seat.invariant.0,
      subst (λ (z : TableId). IsSeatSound z c.title_as.new.seat.me.0) (sym c.title_as.ensures.seat.0)
          (subst (λ (u : View). IsSeatSound c.seat.inside.seat.table_id u) (sym told.0)
          (uncut_sound c.seat.inside.seat.table_id c.args.title v c.seat.invariant.1 can)),
      stakes_kept c.seat.inside.stakes v c.title_as.new.seat.me.0
          (λ k. ap (λ (u : View). stake_of u k) told.0 ∙ uncut_stakes c.args.title v can k) c.seat.invariant.2,
      c.title_as.ensures.aware,
    )

pub returns-clause-view : goal.returns-clause-view
returns-clause-view c = c.title_as.ensures.told.1.0 ∙ ap (λ (h : Share). after_uncut c.args.title h.view) c.seat.view_is
