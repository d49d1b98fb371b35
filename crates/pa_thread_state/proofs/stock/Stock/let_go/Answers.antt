use Rattle.std.proofs.Common.{◌≡◌, ◌∙◌, refl, sym, subst, inr}
use Rattle.std.specs.Prelude.{slice_set}
use Rattle.pa_slot.specs.declared.word.Step.TheVariants.{Reset}
use Rattle.pa_region.specs.Moves.{after_count}
use Rattle.pa_rules.specs.declared.register.Register.TheVariants.{Ref, Cleared}
use Rattle.pa_op_specs.specs.Stocks.{StockValue, register_in}
use Rattle.pa_thread_state.specs.Changes.{LetsGo}
use Rattle.pa_op_specs.proofs.Stocks.{register_has}
use Rattle.pa_thread_state.proofs.Resetting.{can_reset, cleared_stock}
use Rattle.pa_thread_state.proofs.Ready.{inside, inside_aware, inside_budget}
use Rattle.pa_thread_state.proofs.Staying.{stock_of, has_as, after_as, firsts_used}
use Rattle.pa_thread_state.proofs.stock.Stock.let_go.Goals as goal

pub release-fate-requires-clause-able : goal.release-fate-requires-clause-able
release-fate-requires-clause-able g c =
    let i = stock_of c.self.inside.thread c.self.inside.partitions c.self.inside.plain_from c.self.inside.seat.view c.self.inside.registers
    c.self.inside.caches in
    let h = inside i c.args.self.now c.args.handle.now c.args.reg c.self.view_is
    (record { stock = c.kept.ensures.stock; stake = c.requires.stake; below = c.requires.reg; has = inr c.requires.handle }) in
    can_reset i c.args.reg c.args.handle.now h.stock h.stake (inside_budget i c.args.self.now c.self.view_is c.requires.budget) h.below
    (subst (λ (z : StockValue). register_in z.registers c.args.reg ≡ Ref c.args.handle.now) (sym c.self.view_is) c.requires.handle)

pub invariant_of-self : goal.invariant_of-self
invariant_of-self g c =
    let i = stock_of c.self.inside.thread c.self.inside.partitions c.self.inside.plain_from c.self.inside.seat.view c.self.inside.registers
    c.self.inside.caches in
    let h = inside i c.args.self.now c.args.handle.now c.args.reg c.self.view_is
    (record { stock = c.kept.ensures.stock; stake = c.requires.stake; below = c.requires.reg; has = inr c.requires.handle }) in
    let ref = subst (λ (z : StockValue). register_in z.registers c.args.reg ≡ Ref c.args.handle.now)
    (sym c.self.view_is) c.requires.handle in
    let budget = inside_budget i c.args.self.now c.self.view_is c.requires.budget in
    let u = c.args.handle.now.title in
    let rs = slice_set i.registers c.args.reg Cleared in
    let x = after_count Reset u c.release-fate.result.0.0 i.view in
    let leaves = c.counted_steps_leave.ensures Reset u c.release-fate.result.0.0 i.view
    (can_reset i c.args.reg c.args.handle.now h.stock h.stake budget h.below ref) in
    let them = has_as i c.release-fate.new.seat.view x rs c.self.inside.caches c.release-fate.ensures.made.view refl c.self.invariant.1
    c.self.invariant.2
    (cleared_stock c.counted_steps_leave.ensures i c.args.reg c.release-fate.result.0.0 c.args.handle.now h.stock h.stake budget h.below
    ref)
    (firsts_used _ i x u c.self.invariant.1 (inside_aware i c.args.self.now c.self.view_is c.kept.ensures.aware) c.placed.ensures.well
    (register_has i c.args.reg c.args.handle.now h.stock h.below h.has).0 leaves.others) in
    (c.release-fate.ensures.made.region ∙ c.self.invariant.0, them.stock, them.holds, c.self.invariant.3)

pub returns-clause-gone : goal.returns-clause-gone
returns-clause-gone g c =
    let i = stock_of c.self.inside.thread c.self.inside.partitions c.self.inside.plain_from c.self.inside.seat.view c.self.inside.registers
    c.self.inside.caches in
    let h = inside i c.args.self.now c.args.handle.now c.args.reg c.self.view_is
    (record { stock = c.kept.ensures.stock; stake = c.requires.stake; below = c.requires.reg; has = inr c.requires.handle }) in
    let ref = subst (λ (z : StockValue). register_in z.registers c.args.reg ≡ Ref c.args.handle.now)
    (sym c.self.view_is) c.requires.handle in
    let budget = inside_budget i c.args.self.now c.self.view_is c.requires.budget in
    let u = c.args.handle.now.title in
    let rs = slice_set i.registers c.args.reg Cleared in
    let x = after_count Reset u c.release-fate.result.0.0 i.view in
    let leaves = c.counted_steps_leave.ensures Reset u c.release-fate.result.0.0 i.view
    (can_reset i c.args.reg c.args.handle.now h.stock h.stake budget h.below ref) in
    let them = has_as i c.release-fate.new.seat.view x rs c.self.inside.caches c.release-fate.ensures.made.view refl c.self.invariant.1
    c.self.invariant.2
    (cleared_stock c.counted_steps_leave.ensures i c.args.reg c.release-fate.result.0.0 c.args.handle.now h.stock h.stake budget h.below
    ref)
    (firsts_used _ i x u c.self.invariant.1 (inside_aware i c.args.self.now c.self.view_is c.kept.ensures.aware) c.placed.ensures.well
    (register_has i c.args.reg c.args.handle.now h.stock h.below h.has).0 leaves.others) in
    subst (λ (z : StockValue). LetsGo Reset c.args.handle.now c.args.reg Cleared z.view
    (record { slot = c.slot_name.result; found = c.release-fate.result.0 }) z
    (stock_of i.thread i.partitions i.plain_from c.release-fate.new.seat.view rs c.self.inside.caches)) c.self.view_is (record {
      slot = c.slot_name.ensures;
      after_is = after_as i c.release-fate.new.seat.view x rs c.self.inside.caches c.release-fate.ensures.made.view them;
      found = c.release-fate.ensures.made.found;
    })
