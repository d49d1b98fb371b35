use Rattle.std.proofs.Common.{◌∙◌, refl, sym, subst}
use Rattle.std.specs.Prelude.{slice_set}
use Rattle.pa_slot.specs.declared.word.Step.TheVariants.{Copy}
use Rattle.pa_region.specs.Moves.{after_count}
use Rattle.pa_rules.specs.declared.register.Register.TheVariants.{Ref}
use Rattle.pa_op_specs.specs.Stocks.{StockValue, HasNoHandle, register_in}
use Rattle.pa_thread_state.specs.Changes.{PointsTo}
use Rattle.pa_thread_state.proofs.Copying.{IsCounted, can_copy, copied_stock}
use Rattle.pa_thread_state.proofs.Ready.{inside, inside_aware, inside_budget}
use Rattle.pa_thread_state.proofs.Staying.{stock_of, has_as, after_as}
use Rattle.pa_thread_state.proofs.stock.Stock.point.Goals as goal

pub copy-found-requires-clause-able : goal.copy-found-requires-clause-able
copy-found-requires-clause-able g c =
    let i = stock_of c.self.inside.thread c.self.inside.partitions c.self.inside.plain_from c.self.inside.seat.view c.self.inside.registers
    c.self.inside.caches in
    let h = inside i c.args.self.now c.args.handle c.args.from c.self.view_is
    (record { stock = c.kept.ensures.stock; stake = c.requires.stake; below = c.requires.registers.0; has = c.requires.handle }) in
    can_copy i c.args.from c.args.handle h.stock (inside_aware i c.args.self.now c.self.view_is c.kept.ensures.aware) h.stake
    (inside_budget i c.args.self.now c.self.view_is c.requires.budget) h.below h.has
    (subst (λ (z : StockValue). IsCounted z c.args.from c.args.handle) (sym c.self.view_is) c.requires.counted)

pub invariant_of-self : goal.invariant_of-self
invariant_of-self g c =
    let i = stock_of c.self.inside.thread c.self.inside.partitions c.self.inside.plain_from c.self.inside.seat.view c.self.inside.registers
    c.self.inside.caches in
    let h = inside i c.args.self.now c.args.handle c.args.from c.self.view_is
    (record { stock = c.kept.ensures.stock; stake = c.requires.stake; below = c.requires.registers.0; has = c.requires.handle }) in
    let bare = subst (λ (z : StockValue). HasNoHandle (register_in z.registers c.args.to)) (sym c.self.view_is) c.requires.none in
    let rs = slice_set i.registers c.args.to (Ref c.args.handle) in
    let x = after_count Copy c.args.handle.title c.copy-found.result.0 i.view in
    let them = has_as i c.copy-found.new.seat.view x rs c.self.inside.caches c.copy-found.ensures.view refl c.self.invariant.1
    c.self.invariant.2
    (copied_stock c.counted_steps_leave.ensures c.owns_change.ensures i c.args.from c.args.to c.copy-found.result.0 c.args.handle h.stock
    (inside_aware i c.args.self.now c.self.view_is c.kept.ensures.aware) h.stake
    (inside_budget i c.args.self.now c.self.view_is c.requires.budget) h.below c.requires.registers.1 h.has
    (subst (λ (z : StockValue). IsCounted z c.args.from c.args.handle) (sym c.self.view_is) c.requires.counted) bare)
    (λ p class t among. refl) in
    (c.copy-found.ensures.region ∙ c.self.invariant.0, them.stock, them.holds, c.self.invariant.3)

pub returns-clause-points : goal.returns-clause-points
returns-clause-points g c =
    let i = stock_of c.self.inside.thread c.self.inside.partitions c.self.inside.plain_from c.self.inside.seat.view c.self.inside.registers
    c.self.inside.caches in
    let h = inside i c.args.self.now c.args.handle c.args.from c.self.view_is
    (record { stock = c.kept.ensures.stock; stake = c.requires.stake; below = c.requires.registers.0; has = c.requires.handle }) in
    let bare = subst (λ (z : StockValue). HasNoHandle (register_in z.registers c.args.to)) (sym c.self.view_is) c.requires.none in
    let rs = slice_set i.registers c.args.to (Ref c.args.handle) in
    let x = after_count Copy c.args.handle.title c.copy-found.result.0 i.view in
    let them = has_as i c.copy-found.new.seat.view x rs c.self.inside.caches c.copy-found.ensures.view refl c.self.invariant.1
    c.self.invariant.2
    (copied_stock c.counted_steps_leave.ensures c.owns_change.ensures i c.args.from c.args.to c.copy-found.result.0 c.args.handle h.stock
    (inside_aware i c.args.self.now c.self.view_is c.kept.ensures.aware) h.stake
    (inside_budget i c.args.self.now c.self.view_is c.requires.budget) h.below c.requires.registers.1 h.has
    (subst (λ (z : StockValue). IsCounted z c.args.from c.args.handle) (sym c.self.view_is) c.requires.counted) bare)
    (λ p class t among. refl) in
    subst (λ (z : StockValue). PointsTo c.args.handle c.args.to (record { slot = c.slot_name.result; found = c.copy-found.result }) z
    (stock_of i.thread i.partitions i.plain_from c.copy-found.new.seat.view rs c.self.inside.caches)) c.self.view_is (record {
      slot = c.slot_name.ensures;
      after_is = after_as i c.copy-found.new.seat.view x rs c.self.inside.caches c.copy-found.ensures.view them;
      found = c.copy-found.ensures.found;
    })
