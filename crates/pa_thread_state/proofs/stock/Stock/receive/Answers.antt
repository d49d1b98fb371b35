use Rattle.std.proofs.Common.{length, ◌∙◌, refl, sym, subst, ap}
use Rattle.pa_region.specs.declared.view.View.{View}
use Rattle.pa_region.specs.Hands.{united}
use Rattle.pa_region.specs.Aware.{IsAware}
use Rattle.pa_region.specs.Shares.{byte_word_count}
use Rattle.pa_op_specs.specs.Stocks.{StockValue}
use Rattle.pa_thread_state.specs.Allocating.{Receives}
use Rattle.pa_thread_state.proofs.Receiving.{received_stock}
use Rattle.pa_thread_state.proofs.Staying.{stock_of, has_as, after_as, firsts_join}
use Rattle.pa_thread_state.proofs.stock.Stock.receive.Goals as goal

pub invariant_of-self : goal.invariant_of-self
invariant_of-self g c =
    let i = stock_of c.self.inside.thread c.self.inside.partitions c.self.inside.plain_from c.self.inside.seat.view c.self.inside.registers
    c.self.inside.caches in
    let n = c.args.note.view in
    let long = ap (λ (z : StockValue). length z.view.words) c.self.view_is ∙
    (c.kept.ensures.long ∙ (ap byte_word_count (sym c.requires.region) ∙ sym c.aware.ensures.long)) in
    let them = has_as i c.take.new.seat.view
    (united i.view n) i.registers c.self.inside.caches c.take.ensures.view refl c.self.invariant.1 c.self.invariant.2
    (received_stock c.slots_stay_seen.ensures i n c.requires.only.0 c.self.invariant.1 c.requires.only.1
    (subst (λ (v : View). IsAware v) c.take.ensures.view c.aware-2.ensures.aware))
    (firsts_join i n c.self.invariant.1 long) in
    (c.take.ensures.region ∙ c.self.invariant.0, them.stock, them.holds, c.self.invariant.3)

pub returns : goal.returns
returns g c =
    let i = stock_of c.self.inside.thread c.self.inside.partitions c.self.inside.plain_from c.self.inside.seat.view c.self.inside.registers
    c.self.inside.caches in
    let n = c.args.note.view in
    let long = ap (λ (z : StockValue). length z.view.words) c.self.view_is ∙
    (c.kept.ensures.long ∙ (ap byte_word_count (sym c.requires.region) ∙ sym c.aware.ensures.long)) in
    let them = has_as i c.take.new.seat.view
    (united i.view n) i.registers c.self.inside.caches c.take.ensures.view refl c.self.invariant.1 c.self.invariant.2
    (received_stock c.slots_stay_seen.ensures i n c.requires.only.0 c.self.invariant.1 c.requires.only.1
    (subst (λ (v : View). IsAware v) c.take.ensures.view c.aware-2.ensures.aware))
    (firsts_join i n c.self.invariant.1 long) in
    subst (λ (z : StockValue). Receives n z
    (stock_of i.thread i.partitions i.plain_from c.take.new.seat.view i.registers c.self.inside.caches))
    c.self.view_is (record {
      only = c.requires.only;
      aware = c.aware.ensures.aware;
      long = long;
      after_is = after_as i c.take.new.seat.view (united i.view n) i.registers c.self.inside.caches c.take.ensures.view them;
    })
