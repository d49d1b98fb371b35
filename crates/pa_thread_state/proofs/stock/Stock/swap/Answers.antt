use Rattle.std.proofs.Common.{◌∙◌, refl, sym, subst}
use Rattle.pa_op_specs.specs.Stocks.{StockValue}
use Rattle.pa_op_specs.specs.Workers.{HasItsStake}
use Rattle.pa_thread_state.specs.Exchanging.{SwapsHandles}
use Rattle.pa_op_specs.proofs.Stakes.{least_is}
use Rattle.pa_thread_state.proofs.Parking.{kept_stock}
use Rattle.pa_thread_state.proofs.Exchanged.{exchanges_is}
use Rattle.pa_thread_state.proofs.Staying.{stock_of, has_still, firsts_keep}
use Rattle.pa_thread_state.proofs.stock.Stock.swap.Goals as goal

pub exchange-requires-clause-able : goal.exchange-requires-clause-able
exchange-requires-clause-able g c =
    let i = stock_of c.self.inside.thread c.self.inside.partitions c.self.inside.plain_from c.self.inside.seat.view c.self.inside.registers
    c.self.inside.caches in
    let stake = subst (λ (z : StockValue). HasItsStake z) (sym c.self.view_is) c.requires.stake in
    ((least_is i.thread i.view c.self.invariant.1.stake stake).1, c.self.invariant.1.handles.clean)

pub invariant_of-self : goal.invariant_of-self
invariant_of-self g c =
    let i = stock_of c.self.inside.thread c.self.inside.partitions c.self.inside.plain_from c.self.inside.seat.view c.self.inside.registers
    c.self.inside.caches in
    let keeps = c.in-Ok.ensures.made.noted.1.lends.keeps in
    let them = has_still i c.exchange.new.seat.view i.registers c.self.inside.caches refl c.self.invariant.1 c.self.invariant.2
    (kept_stock c.slots_stay_seen.ensures i c.exchange.new.seat.view c.self.invariant.1 keeps)
    (firsts_keep i c.exchange.new.seat.view c.self.invariant.1 keeps) in
    (c.exchange.ensures.region ∙ c.self.invariant.0, them.stock, them.holds, c.self.invariant.3)

pub returns-in-Ok-clause-made : goal.returns-in-Ok-clause-made
returns-in-Ok-clause-made g c =
    let i = stock_of c.self.inside.thread c.self.inside.partitions c.self.inside.plain_from c.self.inside.seat.view c.self.inside.registers
    c.self.inside.caches in
    let keeps = c.in-Ok.ensures.made.noted.1.lends.keeps in
    let them = has_still i c.exchange.new.seat.view i.registers c.self.inside.caches refl c.self.invariant.1 c.self.invariant.2
    (kept_stock c.slots_stay_seen.ensures i c.exchange.new.seat.view c.self.invariant.1 keeps)
    (firsts_keep i c.exchange.new.seat.view c.self.invariant.1 keeps) in
    let stake = subst (λ (z : StockValue). HasItsStake z) (sym c.self.view_is) c.requires.stake in
    subst (λ (z : StockValue). SwapsHandles c.args.line c.args.cell c.args.given c.in-Ok.found c.in-Ok.index z
    (stock_of i.thread i.partitions i.plain_from c.exchange.new.seat.view i.registers c.self.inside.caches)) c.self.view_is
    (subst (λ ls. SwapsHandles c.args.line c.args.cell c.args.given c.in-Ok.found c.in-Ok.index i
    (record i { view = c.exchange.new.seat.view; caches = ls })) (sym them.same)
    (exchanges_is c.args.line c.args.cell c.in-Ok.index c.args.given c.in-Ok.found i c.exchange.new.seat.view
    (least_is i.thread i.view c.self.invariant.1.stake stake).0 c.in-Ok.ensures.made c.in-Ok.ensures.place c.in-Ok.ensures.found))
