use Rattle.std.proofs.Common.{◌∙◌, sym, ap, subst}
use Rattle.pa_region.specs.Views.{HasStake, least_stake}
use Rattle.pa_region.specs.Shares.{Share}
use Rattle.pa_region.proofs.SeatStakes.{least_is}
use Rattle.pa_region.proofs.region.Seat.stake.Goals as goal

pub returns : goal.returns
returns c =
    let has = subst (λ (h : Share). HasStake h.view) (sym c.self.view_is) c.requires in
    least_is c.self.inside.stakes c.self.inside.seat.me.0 c.least.result c.self.invariant.2 has c.least.ensures.few c.least.ensures.none
    c.least.ensures.there
    ∙ ap (λ (h : Share). least_stake h.view.stakes) c.self.view_is
