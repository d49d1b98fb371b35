use Rattle.std.proofs.Common.{◌∙◌, refl, sym, subst, ap, length, inl}
use Rattle.pa_op_specs.specs.Stocks.{StockValue, IsStock}
use Rattle.pa_thread_state.specs.Changes.{CanFill, WritesTo}
use Rattle.pa_op_specs.proofs.Stakes.{least_is}
use Rattle.pa_op_specs.proofs.Stocks.{register_has}
use Rattle.pa_thread_state.proofs.Writing.{filled_sound, filled_view}
use Rattle.pa_thread_state.proofs.Ready.{inside, inside_aware, inside_budget, inside_own}
use Rattle.pa_thread_state.proofs.Staying.{stock_of, has_as, after_as, firsts_used, filled_others}
use Rattle.pa_thread_state.proofs.stock.Stock.fill.Goals as goal

pub write-found-requires-clause-own : goal.write-found-requires-clause-own
write-found-requires-clause-own g c = subst (λ (z : StockValue). CanFill c.args.handle.now z) (sym c.self.view_is) c.requires.can

pub write-found-requires-clause-able : goal.write-found-requires-clause-able
write-found-requires-clause-able g c =
    let i = stock_of c.self.inside.thread c.self.inside.partitions c.self.inside.plain_from c.self.inside.seat.view c.self.inside.registers
    c.self.inside.caches in
    let h = inside i c.args.self.now c.args.handle.now c.args.reg c.self.view_is
    (record {
      stock = subst (λ (z : StockValue). IsStock z) c.self.view_is c.self.invariant.1;
      stake = c.requires.stake;
      below = c.requires.reg;
      has = inl c.requires.handle;
    }) in
    ((least_is i.thread i.view h.stock.stake h.stake).1, inside_budget i c.args.self.now c.self.view_is c.requires.budget)

pub invariant_of-self : goal.invariant_of-self
invariant_of-self g c =
    let i = stock_of c.self.inside.thread c.self.inside.partitions c.self.inside.plain_from c.self.inside.seat.view c.self.inside.registers
    c.self.inside.caches in
    let h = inside i c.args.self.now c.args.handle.now c.args.reg c.self.view_is
    (record {
      stock = subst (λ (z : StockValue). IsStock z) c.self.view_is c.self.invariant.1;
      stake = c.requires.stake;
      below = c.requires.reg;
      has = inl c.requires.handle;
    }) in
    let can = subst (λ (z : StockValue). CanFill c.args.handle.now z) (sym c.self.view_is) c.requires.can in
    let long = ap (λ (z : StockValue). length z.view.words) c.self.view_is ∙ c.placed.ensures.long in
    let own = inside_own i c.args.self.now c.args.handle.now c.args.reg c.self.view_is c.requires.handle in
    let u = c.args.handle.now.title in
    let x = filled_view i.view u c.args.value c.write-found.result.0 in
    let them = has_as i c.write-found.new.seat.view x i.registers c.self.inside.caches c.write-found.ensures.view refl c.self.invariant.1
    c.self.invariant.2
    (filled_sound c.counted_steps_leave.ensures c.owns_change.ensures c.states_are_owns.ensures c.filled_words_have_the_value.ensures _ i
    c.args.reg c.args.value c.write-found.result.0 c.args.handle.now
    h.stock h.stake (inside_budget i c.args.self.now c.self.view_is c.requires.budget) h.below own c.placed.ensures.well long can)
    (firsts_used _ i x u c.self.invariant.1 (inside_aware i c.args.self.now c.self.view_is c.kept.ensures.aware) c.placed.ensures.well
    (register_has i c.args.reg c.args.handle.now h.stock h.below h.has).0 (filled_others c.args.value u i.view.words)) in
    (c.write-found.ensures.region ∙ c.self.invariant.0, them.stock, them.holds, c.self.invariant.3)

pub returns : goal.returns
returns g c =
    let i = stock_of c.self.inside.thread c.self.inside.partitions c.self.inside.plain_from c.self.inside.seat.view c.self.inside.registers
    c.self.inside.caches in
    let h = inside i c.args.self.now c.args.handle.now c.args.reg c.self.view_is
    (record {
      stock = subst (λ (z : StockValue). IsStock z) c.self.view_is c.self.invariant.1;
      stake = c.requires.stake;
      below = c.requires.reg;
      has = inl c.requires.handle;
    }) in
    let can = subst (λ (z : StockValue). CanFill c.args.handle.now z) (sym c.self.view_is) c.requires.can in
    let long = ap (λ (z : StockValue). length z.view.words) c.self.view_is ∙ c.placed.ensures.long in
    let own = inside_own i c.args.self.now c.args.handle.now c.args.reg c.self.view_is c.requires.handle in
    let u = c.args.handle.now.title in
    let x = filled_view i.view u c.args.value c.write-found.result.0 in
    let them = has_as i c.write-found.new.seat.view x i.registers c.self.inside.caches c.write-found.ensures.view refl c.self.invariant.1
    c.self.invariant.2
    (filled_sound c.counted_steps_leave.ensures c.owns_change.ensures c.states_are_owns.ensures c.filled_words_have_the_value.ensures _ i
    c.args.reg c.args.value c.write-found.result.0 c.args.handle.now
    h.stock h.stake (inside_budget i c.args.self.now c.self.view_is c.requires.budget) h.below own c.placed.ensures.well long can)
    (firsts_used _ i x u c.self.invariant.1 (inside_aware i c.args.self.now c.self.view_is c.kept.ensures.aware) c.placed.ensures.well
    (register_has i c.args.reg c.args.handle.now h.stock h.below h.has).0 (filled_others c.args.value u i.view.words)) in
    subst (λ (z : StockValue). WritesTo c.args.handle.now c.args.value
    (record { slot = c.slot_name.result; found = c.write-found.result }) z
    (stock_of i.thread i.partitions i.plain_from c.write-found.new.seat.view i.registers c.self.inside.caches)) c.self.view_is (record {
      slot = c.slot_name.ensures;
      after_is = after_as i c.write-found.new.seat.view x i.registers c.self.inside.caches c.write-found.ensures.view them;
      enabled = c.write-found.ensures.enabled;
      found = c.write-found.ensures.found;
    })
