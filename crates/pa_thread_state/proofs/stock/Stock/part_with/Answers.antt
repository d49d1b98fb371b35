use Rattle.std.proofs.Common.{ℕ, ◌<◌, ◌∙◌, refl, sym, subst, ap}
use Rattle.pa_region.specs.declared.view.View.{View}
use Rattle.pa_region.specs.Views.{stake_of}
use Rattle.pa_region.specs.Aware.{IsAware}
use Rattle.pa_region.specs.Hands.{IsParted}
use Rattle.pa_op_specs.specs.Stocks.{StockValue}
use Rattle.pa_op_specs.specs.Workers.{HasItsStake}
use Rattle.pa_thread_state.specs.Changes.{IsBack}
use Rattle.pa_thread_state.specs.Homing.{without_title}
use Rattle.pa_thread_state.proofs.Homing.{left_stake, left_stock}
use Rattle.pa_thread_state.proofs.Staying.{stock_of, has_as, after_as}
use Rattle.pa_thread_state.proofs.stock.Stock.part_with.Goals as goal

pub invariant_of-self : goal.invariant_of-self
invariant_of-self g c =
    let i = stock_of c.self.inside.thread c.self.inside.partitions c.self.inside.plain_from c.self.inside.seat.view c.self.inside.registers
    c.self.inside.caches in
    let aware = subst (λ (z : StockValue). IsAware z.view) (sym c.self.view_is) c.kept.ensures.aware in
    let back = subst (λ (z : StockValue). IsBack c.args.handle.now z) (sym c.self.view_is) c.requires.back in
    let them = has_as i c.hand.new.seat.view
    (without_title c.args.handle.now.title i.view) i.registers c.self.inside.caches c.hand.ensures.left refl
    c.self.invariant.1 c.self.invariant.2 (left_stock i c.args.handle.now c.self.invariant.1 aware back) (λ p class t among. refl) in
    (c.hand.ensures.regions.0 ∙ c.self.invariant.0, them.stock, them.holds, c.self.invariant.3)

pub returns-clause-left : goal.returns-clause-left
returns-clause-left g c =
    let i = stock_of c.self.inside.thread c.self.inside.partitions c.self.inside.plain_from c.self.inside.seat.view c.self.inside.registers
    c.self.inside.caches in
    let aware = subst (λ (z : StockValue). IsAware z.view) (sym c.self.view_is) c.kept.ensures.aware in
    let back = subst (λ (z : StockValue). IsBack c.args.handle.now z) (sym c.self.view_is) c.requires.back in
    let them = has_as i c.hand.new.seat.view
    (without_title c.args.handle.now.title i.view) i.registers c.self.inside.caches c.hand.ensures.left refl
    c.self.invariant.1 c.self.invariant.2 (left_stock i c.args.handle.now c.self.invariant.1 aware back) (λ p class t among. refl) in
    after_as i c.hand.new.seat.view (without_title c.args.handle.now.title i.view) i.registers c.self.inside.caches c.hand.ensures.left them
    ∙ ap (λ (z : StockValue). record z { view = without_title c.args.handle.now.title z.view }) c.self.view_is

pub returns-clause-stake : goal.returns-clause-stake
returns-clause-stake g c =
    let i = stock_of c.self.inside.thread c.self.inside.partitions c.self.inside.plain_from c.self.inside.seat.view c.self.inside.registers
    c.self.inside.caches in
    let stake = subst (λ (z : StockValue). HasItsStake z) (sym c.self.view_is) c.requires.stake in
    subst (λ (v : View). 0 < stake_of v i.thread) (sym c.hand.ensures.left)
    (subst (λ (n : ℕ). 0 < n) (sym (left_stake c.args.handle.now.title i.view i.thread)) stake)

pub returns-clause-parted : goal.returns-clause-parted
returns-clause-parted g c =
    subst (λ (z : StockValue). IsParted z.view c.hand.new.seat.view c.hand.result.view) c.self.view_is c.hand.ensures.parted
