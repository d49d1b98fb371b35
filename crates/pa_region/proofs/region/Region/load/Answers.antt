use Rattle.std.proofs.Common.{◌/◌, ◌∙◌, refl, sym, ap, subst}
use Rattle.atomic_table.specs.Seated.{TableId}
use Rattle.pa_region.specs.Shares.{Share, IsSeatSound}
use Rattle.pa_region.specs.Loads.{CanLoad, LoadTells}
use Rattle.pa_region.proofs.SeatStakes.{stakes_kept}
use Rattle.pa_region.proofs.Loading.{load_allowed, load_keeps, load_inside}
use Rattle.pa_region.proofs.region.Region.load.Goals as goal

pub load_as-requires-clause-region : goal.load_as-requires-clause-region
load_as-requires-clause-region c =
    let can = subst (λ (h : Share). CanLoad c.args.at h.view) (sym c.seat.view_is) c.requires.able in
    let same = ap (λ (h : Share). h.region) c.seat.view_is ∙ (c.requires.region ∙ sym c.self.view_is) in (
      same,
      load_inside c.seat.inside.seat.table_id c.self.inside.table.shared.table_id c.args.at
          (c.args.at / 8) c.seat.inside.seat.me.0 same c.seat.invariant.1 can refl,
    )

pub load_as-requires-clause-allowed : goal.load_as-requires-clause-allowed
load_as-requires-clause-allowed c =
    let can = subst (λ (h : Share). CanLoad c.args.at h.view) (sym c.seat.view_is) c.requires.able in
    load_allowed c.args.at c.self.inside.table.shared.table_id.slots c.seat.inside.seat.id (c.args.at / 8) c.seat.inside.seat.me refl can

pub invariant_of-seat : goal.invariant_of-seat
invariant_of-seat c =
    let can = subst (λ (h : Share). CanLoad c.args.at h.view) (sym c.seat.view_is) c.requires.able in
    let told = c.load_as.ensures.told in
    let kept = load_keeps c.args.at c.seat.inside.seat.table_id c.seat.inside.seat.me.0 c.load_as.new.seat.me.0 c.load_as.result can told.0
    c.seat.invariant.1 in (
      told.1 ∙ c.seat.invariant.0,
      subst (λ (z : TableId). IsSeatSound z c.load_as.new.seat.me.0) (sym c.load_as.ensures.seat.0) kept.0,
      stakes_kept c.seat.inside.stakes c.seat.inside.seat.me.0 c.load_as.new.seat.me.0 kept.1 c.seat.invariant.2,
      c.load_as.ensures.aware,
    )

pub returns-clause-told : goal.returns-clause-told
returns-clause-told c = subst
    (λ (h : Share). LoadTells c.args.at h.view c.load_as.result c.load_as.new.seat.me.0) c.seat.view_is c.load_as.ensures.told.0
