use Rattle.std.proofs.Common.{◌∙◌, refl, subst}
use Rattle.pa_region.specs.Moves.{after_look}
use Rattle.pa_op_specs.specs.Stocks.{StockValue, IsStock}
use Rattle.pa_thread_state.specs.Changes.{LooksAtSlot}
use Rattle.pa_op_specs.proofs.Stakes.{least_is}
use Rattle.pa_op_specs.proofs.Stocks.{register_has}
use Rattle.pa_thread_state.proofs.Looking.{looked_stock}
use Rattle.pa_thread_state.proofs.Ready.{inside}
use Rattle.pa_thread_state.proofs.Staying.{stock_of, has_as, after_as}
use Rattle.pa_thread_state.proofs.stock.Stock.look.Goals as goal

pub look-found-requires-clause-able : goal.look-found-requires-clause-able
look-found-requires-clause-able g c =
    let i = stock_of c.self.inside.thread c.self.inside.partitions c.self.inside.plain_from c.self.inside.seat.view c.self.inside.registers
    c.self.inside.caches in
    let is = subst (λ (z : StockValue). IsStock z) c.self.view_is c.self.invariant.1 in
    let h = inside i c.args.self.now c.args.handle.now c.args.reg c.self.view_is
    (record { stock = is; stake = c.requires.stake; below = c.requires.reg; has = c.requires.handle }) in
    ((register_has i c.args.reg c.args.handle.now h.stock h.below h.has).0, (least_is i.thread i.view h.stock.stake h.stake).1)

pub invariant_of-self : goal.invariant_of-self
invariant_of-self g c =
    let i = stock_of c.self.inside.thread c.self.inside.partitions c.self.inside.plain_from c.self.inside.seat.view c.self.inside.registers
    c.self.inside.caches in
    let is = subst (λ (z : StockValue). IsStock z) c.self.view_is c.self.invariant.1 in
    let h = inside i c.args.self.now c.args.handle.now c.args.reg c.self.view_is
    (record { stock = is; stake = c.requires.stake; below = c.requires.reg; has = c.requires.handle }) in
    let them = has_as i c.look-found.new.seat.view
    (after_look c.args.handle.now.title c.look-found.result.0 i.view) i.registers c.self.inside.caches
    c.look-found.ensures.view refl c.self.invariant.1 c.self.invariant.2
    (looked_stock c.looks_leave.ensures c.owns_change.ensures i c.look-found.result.0 c.args.handle.now h.stock h.stake)
    (λ p class t among. refl) in
    (c.look-found.ensures.region ∙ c.self.invariant.0, them.stock, them.holds, c.self.invariant.3)

pub returns : goal.returns
returns g c =
    let i = stock_of c.self.inside.thread c.self.inside.partitions c.self.inside.plain_from c.self.inside.seat.view c.self.inside.registers
    c.self.inside.caches in
    let is = subst (λ (z : StockValue). IsStock z) c.self.view_is c.self.invariant.1 in
    let u = c.args.handle.now.title in let found = c.look-found.result.0 in
    let h = inside i c.args.self.now c.args.handle.now c.args.reg c.self.view_is
    (record { stock = is; stake = c.requires.stake; below = c.requires.reg; has = c.requires.handle }) in
    let them = has_as i c.look-found.new.seat.view (after_look u found i.view) i.registers c.self.inside.caches
    c.look-found.ensures.view refl c.self.invariant.1 c.self.invariant.2
    (looked_stock c.looks_leave.ensures c.owns_change.ensures i found c.args.handle.now h.stock h.stake) (λ p class t among. refl) in
    subst (λ (z : StockValue). LooksAtSlot c.args.handle.now (record { slot = c.slot_name.result; found = c.look-found.result }) z
    (stock_of i.thread i.partitions i.plain_from c.look-found.new.seat.view i.registers c.self.inside.caches)) c.self.view_is (record {
      slot = c.slot_name.ensures;
      after_is = after_as i c.look-found.new.seat.view
          (after_look u found i.view) i.registers c.self.inside.caches c.look-found.ensures.view them;
      found = c.look-found.ensures.found;
    })
