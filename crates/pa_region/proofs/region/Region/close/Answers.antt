use Rattle.std.proofs.Common.{ℕ, List, sym, subst}
use Rattle.core.specs.Mem.Slots.{slots_items}
use Rattle.pa_region.specs.Views.{HasEveryStake}
use Rattle.pa_region.specs.Shares.{Share}
use Rattle.pa_region.specs.Ends.{IsEnd}
use Rattle.pa_region.proofs.Closing.{ends}
use Rattle.pa_region.proofs.region.Region.close.Goals as goal

pub returns-clause-end : goal.returns-clause-end
returns-clause-end c =
    let every = subst (λ (h : Share). HasEveryStake h.view) (sym c.seat.view_is) c.requires.stakes in
    let final = c.close_with.ensures.values.2 in
    subst (λ (h : Share). IsEnd c.of.result h.view) c.seat.view_is
    (subst (λ (ws : List ℕ). IsEnd ws c.seat.inside.seat.me.0) (sym c.of.ensures)
    (ends c.seat.inside.seat.id c.seat.inside.seat.me.0 (slots_items c.close_with.result.words)
    (slots_items c.close_with.result.slots) every final))
