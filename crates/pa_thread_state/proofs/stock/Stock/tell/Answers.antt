use Rattle.std.proofs.Common.{◌≡◌, ◌∙◌, refl, sym, subst, ap}
use Rattle.pa_region.specs.declared.view.View.{View}
use Rattle.pa_region.specs.Views.{stake_of}
use Rattle.pa_region.specs.Hands.{left_after, IsParted}
use Rattle.pa_region.specs.Lending.{stake_parcel}
use Rattle.pa_op_specs.specs.Stocks.{StockValue, IsForThread}
use Rattle.pa_op_specs.specs.Workers.{HasItsStake}
use Rattle.pa_thread_state.proofs.Handing.{told_stock, told_again, told_none}
use Rattle.pa_thread_state.proofs.Staying.{stock_of, has_as, after_as}
use Rattle.pa_thread_state.proofs.stock.Stock.tell.Goals as goal

pub invariant_of-self : goal.invariant_of-self
invariant_of-self g c =
    let i = stock_of c.self.inside.thread c.self.inside.partitions c.self.inside.plain_from c.self.inside.seat.view c.self.inside.registers
    c.self.inside.caches in
    let x = left_after (stake_parcel i.thread) i.view in
    let them = has_as i c.hand.new.seat.view x i.registers c.self.inside.caches c.hand.ensures.left refl c.self.invariant.1
    c.self.invariant.2
    (told_stock i c.self.invariant.1) (λ p class t among. refl) in
    (c.hand.ensures.regions.0 ∙ c.self.invariant.0, them.stock, them.holds, c.self.invariant.3)

pub returns-clause-left : goal.returns-clause-left
returns-clause-left g c =
    let i = stock_of c.self.inside.thread c.self.inside.partitions c.self.inside.plain_from c.self.inside.seat.view c.self.inside.registers
    c.self.inside.caches in
    let x = left_after (stake_parcel i.thread) i.view in
    let them = has_as i c.hand.new.seat.view x i.registers c.self.inside.caches c.hand.ensures.left refl c.self.invariant.1
    c.self.invariant.2
    (told_stock i c.self.invariant.1) (λ p class t among. refl) in
    after_as i c.hand.new.seat.view x i.registers c.self.inside.caches c.hand.ensures.left them
    ∙ ap (λ (z : StockValue). record z { view = left_after (stake_parcel z.thread) z.view }) c.self.view_is

pub returns-clause-again : goal.returns-clause-again
returns-clause-again g c =
    let i = stock_of c.self.inside.thread c.self.inside.partitions c.self.inside.plain_from c.self.inside.seat.view c.self.inside.registers
    c.self.inside.caches in
    subst (λ (z : StockValue). IsForThread z.thread c.hand.result.view) c.self.view_is
    (subst (λ (v : View). IsForThread i.thread v) (sym c.hand.ensures.given)
    (told_again i.thread i.view c.self.invariant.1.stake (subst HasItsStake (sym c.self.view_is) c.requires.stake)))

pub returns-clause-none : goal.returns-clause-none
returns-clause-none g c k =
    let i = stock_of c.self.inside.thread c.self.inside.partitions c.self.inside.plain_from c.self.inside.seat.view c.self.inside.registers
    c.self.inside.caches in
    subst (λ (v : View). stake_of v k ≡ 0) (sym c.hand.ensures.left)
    (told_none i.thread i.view c.self.invariant.1.stake
    (subst (λ (v : View). IsParted i.view (left_after (stake_parcel i.thread) i.view) v) c.hand.ensures.given
    (subst (λ (v : View). IsParted i.view v c.hand.result.view) c.hand.ensures.left c.hand.ensures.parted)) k)
