use Rattle.std.proofs.Common.{ℕ, ◌+◌, ◌-◌, ◌∙◌, sym, ap, subst}
use Rattle.atomic_table.specs.Seated.{TableId}
use Rattle.pa_region.specs.declared.view.View.{View}
use Rattle.pa_region.specs.Views.{stake_of}
use Rattle.pa_region.specs.Shares.{Share, IsSeatSound}
use Rattle.pa_region.specs.Totals.{after_add, CanAdd}
use Rattle.pa_region.proofs.SeatStakes.{stakes_kept}
use Rattle.pa_region.proofs.AddStep.{add_stakes}
use Rattle.pa_region.proofs.AddCalls.{add_allowed, total_inside, add_sound}
use Rattle.pa_region.proofs.region.Region.add_total.Goals as goal

pub total_as-requires-clause-region : goal.total_as-requires-clause-region
total_as-requires-clause-region c =
    let same = ap (λ (h : Share). h.region) c.seat.view_is ∙ (c.requires.region ∙ sym c.self.view_is) in
    let place = ap (λ (n : ℕ). n - 16 + c.args.word) c.word_count.ensures in (
      same,
      (total_inside c.seat.inside.seat.table_id c.self.inside.table.shared.table_id c.args.word _ c.seat.inside.seat.me.0 same
          c.seat.invariant.1 c.self.invariant.1 c.requires.able.0
          place).0,
    )

pub total_as-requires-clause-allowed : goal.total_as-requires-clause-allowed
total_as-requires-clause-allowed c =
    let same = ap (λ (h : Share). h.region) c.seat.view_is ∙ (c.requires.region ∙ sym c.self.view_is) in
    let can = subst (λ (h : Share). CanAdd c.args.word c.args.bytes h.view) (sym c.seat.view_is) c.requires.able in
    let place = ap (λ (n : ℕ). n - 16 + c.args.word) c.word_count.ensures in
    let seen = (total_inside c.seat.inside.seat.table_id c.self.inside.table.shared.table_id c.args.word _ c.seat.inside.seat.me.0 same
    c.seat.invariant.1 c.self.invariant.1
    c.requires.able.0 place).1 in
    add_allowed c.args.word c.args.bytes c.self.inside.table.shared.table_id.slots c.seat.inside.seat.id _ c.seat.inside.seat.me seen can

pub invariant_of-seat : goal.invariant_of-seat
invariant_of-seat c =
    let can = subst (λ (h : Share). CanAdd c.args.word c.args.bytes h.view) (sym c.seat.view_is) c.requires.able in
    let v = c.seat.inside.seat.me.0 in
    let told = c.total_as.ensures.told in (
      told.1 ∙ c.seat.invariant.0,
      subst (λ (z : TableId). IsSeatSound z c.total_as.new.seat.me.0) (sym c.total_as.ensures.seat.0)
          (subst (λ (u : View). IsSeatSound c.seat.inside.seat.table_id u) (sym told.0)
          (add_sound c.seat.inside.seat.table_id c.args.word c.args.bytes v c.seat.invariant.1)),
      stakes_kept c.seat.inside.stakes v c.total_as.new.seat.me.0
          (λ k. ap (λ (u : View). stake_of u k) told.0 ∙ add_stakes c.args.word c.args.bytes v can.1 k) c.seat.invariant.2,
      c.total_as.ensures.aware,
    )

pub returns-clause-region : goal.returns-clause-region
returns-clause-region c = c.total_as.ensures.seat.0 ∙ ap (λ (h : Share). h.region) c.seat.view_is

pub returns-clause-view : goal.returns-clause-view
returns-clause-view c = c.total_as.ensures.told.0 ∙ ap (λ (h : Share). after_add c.args.word c.args.bytes h.view) c.seat.view_is
