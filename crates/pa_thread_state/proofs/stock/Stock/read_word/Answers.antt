use Rattle.std.proofs.Common.{◌∙◌, refl, subst}
use Rattle.pa_op_specs.specs.Stocks.{StockValue, IsStock}
use Rattle.pa_thread_state.specs.Changes.{ReadsAt}
use Rattle.pa_op_specs.proofs.Stakes.{least_is}
use Rattle.pa_op_specs.proofs.Stocks.{register_has}
use Rattle.pa_thread_state.proofs.Reading.{read_sound, read_view}
use Rattle.pa_thread_state.proofs.Ready.{inside}
use Rattle.pa_thread_state.proofs.Staying.{stock_of, has_as, after_as}
use Rattle.pa_thread_state.proofs.stock.Stock.read_word.Goals as goal

pub read-value-requires-clause-able : goal.read-value-requires-clause-able
read-value-requires-clause-able g c =
    let i = stock_of c.self.inside.thread c.self.inside.partitions c.self.inside.plain_from c.self.inside.seat.view c.self.inside.registers
    c.self.inside.caches in
    let h = inside i c.args.self.now c.args.handle.now c.args.reg c.self.view_is
    (record {
      stock = subst (λ (z : StockValue). IsStock z) c.self.view_is c.self.invariant.1;
      stake = c.requires.stake;
      below = c.requires.reg;
      has = c.requires.handle;
    }) in
    ((register_has i c.args.reg c.args.handle.now h.stock h.below h.has).0, (least_is i.thread i.view h.stock.stake h.stake).1)

pub invariant_of-self : goal.invariant_of-self
invariant_of-self g c =
    let i = stock_of c.self.inside.thread c.self.inside.partitions c.self.inside.plain_from c.self.inside.seat.view c.self.inside.registers
    c.self.inside.caches in
    let h = inside i c.args.self.now c.args.handle.now c.args.reg c.self.view_is
    (record {
      stock = subst (λ (z : StockValue). IsStock z) c.self.view_is c.self.invariant.1;
      stake = c.requires.stake;
      below = c.requires.reg;
      has = c.requires.handle;
    }) in
    let x = read_view i.view c.args.handle.now.title c.read-value.result.0.0 c.args.place c.read-value.result.1 in
    let them = has_as i c.read-value.new.seat.view x i.registers c.self.inside.caches c.read-value.ensures.view refl c.self.invariant.1
    c.self.invariant.2
    (read_sound c.looks_leave.ensures c.entries_stand_in_logs.ensures c.owns_change.ensures i c.read-value.result.0.0 c.args.place
    c.read-value.result.1 c.args.handle.now h.stock h.stake)
    (λ p class t among. refl) in
    (c.read-value.ensures.region ∙ c.self.invariant.0, them.stock, them.holds, c.self.invariant.3)

pub returns : goal.returns
returns g c =
    let i = stock_of c.self.inside.thread c.self.inside.partitions c.self.inside.plain_from c.self.inside.seat.view c.self.inside.registers
    c.self.inside.caches in
    let h = inside i c.args.self.now c.args.handle.now c.args.reg c.self.view_is
    (record {
      stock = subst (λ (z : StockValue). IsStock z) c.self.view_is c.self.invariant.1;
      stake = c.requires.stake;
      below = c.requires.reg;
      has = c.requires.handle;
    }) in
    let x = read_view i.view c.args.handle.now.title c.read-value.result.0.0 c.args.place c.read-value.result.1 in
    let them = has_as i c.read-value.new.seat.view x i.registers c.self.inside.caches c.read-value.ensures.view refl c.self.invariant.1
    c.self.invariant.2
    (read_sound c.looks_leave.ensures c.entries_stand_in_logs.ensures c.owns_change.ensures i c.read-value.result.0.0 c.args.place
    c.read-value.result.1 c.args.handle.now h.stock h.stake)
    (λ p class t among. refl) in
    subst (λ (z : StockValue). ReadsAt c.args.handle.now c.args.place
    (record { slot = c.slot_name.result; found = c.read-value.result.0 }) c.read-value.result.1 z
    (stock_of i.thread i.partitions i.plain_from c.read-value.new.seat.view i.registers c.self.inside.caches)) c.self.view_is (record {
      slot = c.slot_name.ensures;
      after_is = after_as i c.read-value.new.seat.view x i.registers c.self.inside.caches c.read-value.ensures.view them;
      found = c.read-value.ensures.found;
    })
