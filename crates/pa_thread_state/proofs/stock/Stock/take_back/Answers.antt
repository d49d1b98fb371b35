use Rattle.std.proofs.Common.{◌<◌, length, ◌∙◌, refl, sym, subst, ap}
use Rattle.pa_region.specs.declared.view.View.{View}
use Rattle.pa_region.specs.Views.{stake_of}
use Rattle.pa_region.specs.Hands.{IsParted, united}
use Rattle.pa_region.specs.Aware.{IsAware}
use Rattle.pa_region.specs.Shares.{byte_word_count}
use Rattle.pa_op_specs.specs.Stocks.{StockValue}
use Rattle.pa_op_specs.specs.Workers.{HasItsStake}
use Rattle.pa_thread_state.proofs.Homing.{back_stock, back_stake}
use Rattle.pa_thread_state.proofs.Staying.{stock_of, has_as, after_as, firsts_join}
use Rattle.pa_thread_state.proofs.stock.Stock.take_back.Goals as goal

pub invariant_of-self : goal.invariant_of-self
invariant_of-self g c =
    let i = stock_of c.self.inside.thread c.self.inside.partitions c.self.inside.plain_from c.self.inside.seat.view c.self.inside.registers
    c.self.inside.caches in
    let n = c.args.note.view in
    let long = ap (λ (z : StockValue). length z.view.words) c.self.view_is ∙
    (c.kept.ensures.long ∙ (ap byte_word_count (sym c.requires.note) ∙ sym c.aware.ensures.long)) in
    let them = has_as i c.take.new.seat.view
    (united i.view n) i.registers c.self.inside.caches c.take.ensures.view refl c.self.invariant.1 c.self.invariant.2
    (back_stock c.beginnings_join.ensures c.slots_stay_seen.ensures i n c.requires.has.0 c.self.invariant.1 c.requires.has.1
    (subst (λ (v : View). IsAware v) c.take.ensures.view c.aware-2.ensures.aware))
    (firsts_join i n c.self.invariant.1 long) in
    (c.take.ensures.region ∙ c.self.invariant.0, them.stock, them.holds, c.self.invariant.3)

pub returns-clause-stake : goal.returns-clause-stake
returns-clause-stake g c =
    let stake = subst (λ (z : StockValue). HasItsStake z) (sym c.self.view_is) c.requires.stake in
    record {
      thread = ap (λ (z : StockValue). z.thread) c.self.view_is;
      stake = subst (λ (v : View). 0 < stake_of v c.self.inside.thread) (sym c.take.ensures.view)
          (back_stake c.self.inside.seat.view c.args.note.view c.self.inside.thread stake);
    }

pub returns-clause-joined : goal.returns-clause-joined
returns-clause-joined g c =
    let i = stock_of c.self.inside.thread c.self.inside.partitions c.self.inside.plain_from c.self.inside.seat.view c.self.inside.registers
    c.self.inside.caches in
    let n = c.args.note.view in
    let long = ap (λ (z : StockValue). length z.view.words) c.self.view_is ∙
    (c.kept.ensures.long ∙ (ap byte_word_count (sym c.requires.note) ∙ sym c.aware.ensures.long)) in
    let them = has_as i c.take.new.seat.view
    (united i.view n) i.registers c.self.inside.caches c.take.ensures.view refl c.self.invariant.1 c.self.invariant.2
    (back_stock c.beginnings_join.ensures c.slots_stay_seen.ensures i n c.requires.has.0 c.self.invariant.1 c.requires.has.1
    (subst (λ (v : View). IsAware v) c.take.ensures.view c.aware-2.ensures.aware))
    (firsts_join i n c.self.invariant.1 long) in
    after_as i c.take.new.seat.view (united i.view n) i.registers c.self.inside.caches c.take.ensures.view them
    ∙ ap (λ (z : StockValue). record z { view = united z.view n }) c.self.view_is

pub returns-clause-parted : goal.returns-clause-parted
returns-clause-parted g c =
    subst (λ (z : StockValue). IsParted c.take.new.seat.view z.view c.args.note.view) c.self.view_is c.take.ensures.parted
