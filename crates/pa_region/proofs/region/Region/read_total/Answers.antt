use Rattle.std.proofs.Common.{◌≡◌, ℕ, ◌+◌, ◌-◌, ◌∙◌, sym, ap, subst}
use Rattle.atomic_table.specs.Seated.{TableId}
use Rattle.pa_region.specs.declared.view.View.{View}
use Rattle.pa_region.specs.Views.{logged_of, HasEveryStake}
use Rattle.pa_region.specs.Marks.{AreStakes}
use Rattle.pa_region.specs.Shares.{Share, IsSeatSound}
use Rattle.pa_region.specs.Totals.{added_to}
use Rattle.pa_region.proofs.AddCalls.{total_allowed, total_inside}
use Rattle.pa_region.proofs.region.Region.read_total.Goals as goal

pub load_as-requires-clause-region : goal.load_as-requires-clause-region
load_as-requires-clause-region c =
    let same = ap (λ (h : Share). h.region) c.seat.view_is ∙ (c.requires.region ∙ sym c.self.view_is) in
    let place = ap (λ (n : ℕ). n - 16 + c.args.word) c.word_count.ensures in (
      same,
      (total_inside c.seat.inside.seat.table_id c.self.inside.table.shared.table_id c.args.word _ c.seat.inside.seat.me.0 same
          c.seat.invariant.1 c.self.invariant.1 c.requires.word place).0,
    )

pub load_as-requires-clause-allowed : goal.load_as-requires-clause-allowed
load_as-requires-clause-allowed c =
    let same = ap (λ (h : Share). h.region) c.seat.view_is ∙ (c.requires.region ∙ sym c.self.view_is) in
    let place = ap (λ (n : ℕ). n - 16 + c.args.word) c.word_count.ensures in
    let seen = (total_inside c.seat.inside.seat.table_id c.self.inside.table.shared.table_id c.args.word _ c.seat.inside.seat.me.0 same
    c.seat.invariant.1 c.self.invariant.1
    c.requires.word place).1 in
    total_allowed c.args.word c.self.inside.table.shared.table_id.slots c.seat.inside.seat.id _ c.seat.inside.seat.me seen c.requires.word

pub invariant_of-seat : goal.invariant_of-seat
invariant_of-seat c =
    let told = c.load_as.ensures.told in (
      told.1 ∙ c.seat.invariant.0,
      subst (λ (z : TableId). IsSeatSound z c.load_as.new.seat.me.0) (sym c.load_as.ensures.seat.0)
          (subst (λ (u : View). IsSeatSound c.seat.inside.seat.table_id u) (sym told.0) c.seat.invariant.1),
      subst (λ (u : View). AreStakes c.seat.inside.stakes u) (sym told.0) c.seat.invariant.2,
      c.load_as.ensures.aware,
    )

pub returns-clause-seat : goal.returns-clause-seat
returns-clause-seat c =
    ap (λ (z : TableId). record { region = z; view = c.load_as.new.seat.me.0 }) c.load_as.ensures.seat.0
    ∙ (ap (λ (u : View). record { region = c.seat.inside.seat.table_id; view = u }) c.load_as.ensures.told.0 ∙ c.seat.view_is)

pub returns-clause-sum : goal.returns-clause-sum
returns-clause-sum c = subst (λ (h : Share). HasEveryStake h.view →
    c.load_as.result ≡ logged_of h.view (added_to c.args.word)) c.seat.view_is c.load_as.ensures.told.2
