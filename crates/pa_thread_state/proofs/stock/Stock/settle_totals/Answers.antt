use Rattle.std.proofs.Common.{◌∙◌, List, refl, sym, ap, subst}
use Rattle.pa_region.specs.declared.view.View.{View}
use Rattle.pa_totals.specs.declared.owed.Owed.{Owed}
use Rattle.pa_totals.specs.Settled.{after_settle_all}
use Rattle.pa_op_specs.specs.Stocks.{StockValue}
use Rattle.pa_op_specs.specs.Workers.{HasItsStake, IsCovered}
use Rattle.pa_op_specs.proofs.Stakes.{can_settle}
use Rattle.pa_thread_state.proofs.Settled.{settled_stock, settled_stake, settled_covered}
use Rattle.pa_thread_state.proofs.Staying.{stock_of, has_as, after_as}
use Rattle.pa_thread_state.proofs.stock.Stock.settle_totals.Goals as goal

pub settle_all-requires-clause-able : goal.settle_all-requires-clause-able
settle_all-requires-clause-able g c =
    let i = stock_of c.self.inside.thread c.self.inside.partitions c.self.inside.plain_from c.self.inside.seat.view c.self.inside.registers
    c.self.inside.caches in
    can_settle c.args.owed.now i c.self.invariant.1.stake (subst HasItsStake (sym c.self.view_is) c.requires.stake)
    (subst (IsCovered c.args.owed.now) (sym c.self.view_is) c.requires.covered)

pub invariant_of-self : goal.invariant_of-self
invariant_of-self g c =
    let i = stock_of c.self.inside.thread c.self.inside.partitions c.self.inside.plain_from c.self.inside.seat.view c.self.inside.registers
    c.self.inside.caches in
    let them = has_as i c.settle_all.new.seat.view
    (after_settle_all c.args.owed.now i.view) i.registers c.self.inside.caches c.settle_all.ensures.view refl
    c.self.invariant.1 c.self.invariant.2
    (settled_stock c.whole_settlings_leave.ensures c.args.owed.now i c.self.invariant.1
    (subst HasItsStake (sym c.self.view_is) c.requires.stake)
    (subst (IsCovered c.args.owed.now) (sym c.self.view_is) c.requires.covered)) (λ p class t among. refl) in
    (c.settle_all.ensures.region ∙ c.self.invariant.0, them.stock, them.holds, c.self.invariant.3)

pub returns-clause-stake : goal.returns-clause-stake
returns-clause-stake g c =
    let i = stock_of c.self.inside.thread c.self.inside.partitions c.self.inside.plain_from c.self.inside.seat.view c.self.inside.registers
    c.self.inside.caches in
    subst (λ (v : View). HasItsStake (record i { view = v })) (sym c.settle_all.ensures.view)
    (settled_stake c.whole_settlings_leave.ensures c.args.owed.now i c.self.invariant.1
    (subst HasItsStake (sym c.self.view_is) c.requires.stake)
    (subst (IsCovered c.args.owed.now) (sym c.self.view_is) c.requires.covered))

pub returns-clause-covered : goal.returns-clause-covered
returns-clause-covered g c =
    let i = stock_of c.self.inside.thread c.self.inside.partitions c.self.inside.plain_from c.self.inside.seat.view c.self.inside.registers
    c.self.inside.caches in
    subst (λ (v : View). IsCovered c.settle_all.new.owed (record i { view = v })) (sym c.settle_all.ensures.view)
    (subst (λ (os : List Owed). IsCovered os (record i { view = after_settle_all c.args.owed.now i.view }))
    (sym c.settle_all.ensures.settled)
    (settled_covered c.whole_settlings_leave.ensures c.args.owed.now i c.self.invariant.1
    (subst HasItsStake (sym c.self.view_is) c.requires.stake)
    (subst (IsCovered c.args.owed.now) (sym c.self.view_is) c.requires.covered)))

pub returns-clause-view : goal.returns-clause-view
returns-clause-view g c =
    let i = stock_of c.self.inside.thread c.self.inside.partitions c.self.inside.plain_from c.self.inside.seat.view c.self.inside.registers
    c.self.inside.caches in
    let them = has_as i c.settle_all.new.seat.view
    (after_settle_all c.args.owed.now i.view) i.registers c.self.inside.caches c.settle_all.ensures.view refl
    c.self.invariant.1 c.self.invariant.2
    (settled_stock c.whole_settlings_leave.ensures c.args.owed.now i c.self.invariant.1
    (subst HasItsStake (sym c.self.view_is) c.requires.stake)
    (subst (IsCovered c.args.owed.now) (sym c.self.view_is) c.requires.covered)) (λ p class t among. refl) in
    after_as i c.settle_all.new.seat.view
    (after_settle_all c.args.owed.now i.view) i.registers c.self.inside.caches c.settle_all.ensures.view them
    ∙ ap (λ (z : StockValue). record z { view = after_settle_all c.args.owed.now z.view }) c.self.view_is
