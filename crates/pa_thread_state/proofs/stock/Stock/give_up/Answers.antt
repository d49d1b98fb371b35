use Rattle.std.proofs.Common.{◌≡◌, true, ◌∙◌, refl, sym, subst, ap, arith, inl}
use Rattle.std.specs.Prelude.{slice_set}
use Rattle.pa_slot.specs.declared.word.Step.TheVariants.{Free}
use Rattle.pa_slot.specs.Titles.{poison}
use Rattle.pa_slot.specs.Holdings.{one}
use Rattle.pa_region.proofs.PoisonedOwns.{poisoned_owns_unclean}
use Rattle.pa_quarantine.specs.Filling.{poisoned}
use Rattle.pa_cells.specs.Handles.{is_plain}
use Rattle.pa_rules.specs.declared.register.Register.TheVariants.{Own, Freed}
use Rattle.pa_op_specs.specs.Stocks.{StockValue, register_in}
use Rattle.pa_thread_state.specs.Changes.{LetsGo}
use Rattle.pa_op_specs.proofs.Stocks.{register_has}
use Rattle.pa_thread_state.proofs.Freeing.{can_free, can_step, freed_stock, freed_view}
use Rattle.pa_thread_state.proofs.Seals.{own_sealed}
use Rattle.pa_thread_state.proofs.Ready.{inside, inside_aware, inside_budget}
use Rattle.pa_thread_state.proofs.Staying.{stock_of, has_as, after_as, firsts_used, filled_others}
use Rattle.pa_thread_state.proofs.stock.Stock.give_up.Goals as goal

pub free_as-fate-requires-clause-own : goal.free_as-fate-requires-clause-own
free_as-fate-requires-clause-own g c =
    let i = stock_of c.self.inside.thread c.self.inside.partitions c.self.inside.plain_from c.self.inside.seat.view c.self.inside.registers
    c.self.inside.caches in
    let h = inside i c.args.self.now c.args.handle.now c.args.reg c.self.view_is
    (record { stock = c.kept.ensures.stock; stake = c.requires.stake; below = c.requires.reg; has = inl c.requires.handle }) in
    (can_free i c.args.reg c.args.handle.now h.stock h.stake (inside_budget i c.args.self.now c.self.view_is c.requires.budget) h.below
    (subst (λ (z : StockValue). register_in z.registers c.args.reg ≡ Own c.args.handle.now) (sym c.self.view_is) c.requires.handle)).0

pub free_as-fate-requires-clause-able : goal.free_as-fate-requires-clause-able
free_as-fate-requires-clause-able g c =
    let i = stock_of c.self.inside.thread c.self.inside.partitions c.self.inside.plain_from c.self.inside.seat.view c.self.inside.registers
    c.self.inside.caches in
    let h = inside i c.args.self.now c.args.handle.now c.args.reg c.self.view_is
    (record { stock = c.kept.ensures.stock; stake = c.requires.stake; below = c.requires.reg; has = inl c.requires.handle }) in
    let can = can_free i c.args.reg c.args.handle.now h.stock h.stake
    (inside_budget i c.args.self.now c.self.view_is c.requires.budget) h.below
    (subst (λ (z : StockValue). register_in z.registers c.args.reg ≡ Own c.args.handle.now) (sym c.self.view_is) c.requires.handle) in
    (can.1, can.2)

pub free_as-fate-requires-clause-sealed : goal.free_as-fate-requires-clause-sealed
free_as-fate-requires-clause-sealed g c plain =
    let i = stock_of c.self.inside.thread c.self.inside.partitions c.self.inside.plain_from c.self.inside.seat.view c.self.inside.registers
    c.self.inside.caches in
    let own = subst (λ (z : StockValue). register_in z.registers c.args.reg ≡ Own c.args.handle.now)
    (sym c.self.view_is) c.requires.handle in
    let flag : is_plain i.plain_from c.args.handle.now ≡ true =
    ap (λ (z : StockValue). is_plain z.plain_from c.args.handle.now) c.self.view_is ∙ (sym c.is_plain-plain.ensures ∙ plain) in
    let e = own_sealed i c.args.reg c.args.handle.now c.self.invariant.1
    (inside_aware i c.args.self.now c.self.view_is c.kept.ensures.aware) c.requires.reg own ∙ ap one flag in
    omega arith

pub free_as-fate-requires-clause-begins : goal.free_as-fate-requires-clause-begins
free_as-fate-requires-clause-begins g c =
    let i = stock_of c.self.inside.thread c.self.inside.partitions c.self.inside.plain_from c.self.inside.seat.view c.self.inside.registers
    c.self.inside.caches in
    let h = inside i c.args.self.now c.args.handle.now c.args.reg c.self.view_is
    (record { stock = c.kept.ensures.stock; stake = c.requires.stake; below = c.requires.reg; has = inl c.requires.handle }) in
    poisoned_owns_unclean i.view h.stock.handles.clean

pub invariant_of-self : goal.invariant_of-self
invariant_of-self g c =
    let i = stock_of c.self.inside.thread c.self.inside.partitions c.self.inside.plain_from c.self.inside.seat.view c.self.inside.registers
    c.self.inside.caches in
    let h = inside i c.args.self.now c.args.handle.now c.args.reg c.self.view_is
    (record { stock = c.kept.ensures.stock; stake = c.requires.stake; below = c.requires.reg; has = inl c.requires.handle }) in
    let own = subst (λ (z : StockValue). register_in z.registers c.args.reg ≡ Own c.args.handle.now)
    (sym c.self.view_is) c.requires.handle in
    let budget = inside_budget i c.args.self.now c.self.view_is c.requires.budget in
    let u = c.args.handle.now.title in let found = c.free_as-fate.result.0.0 in
    let rs = slice_set i.registers c.args.reg Freed in
    let x = freed_view i.view u found in
    let leaves = c.counted_steps_leave.ensures Free u found (poisoned u i.view)
    (can_step c.states_are_owns.ensures c.owns_change.ensures i c.args.reg c.args.handle.now h.stock h.stake budget h.below own) in
    let them = has_as i c.free_as-fate.new.seat.view x rs c.self.inside.caches c.free_as-fate.ensures.made.view refl
    c.self.invariant.1 c.self.invariant.2
    (freed_stock c.counted_steps_leave.ensures c.owns_change.ensures c.states_are_owns.ensures i c.args.reg found c.args.handle.now h.stock
    (inside_aware i c.args.self.now c.self.view_is c.kept.ensures.aware) h.stake budget h.below own)
    (firsts_used _ i x u c.self.invariant.1 (inside_aware i c.args.self.now c.self.view_is c.kept.ensures.aware) c.placed.ensures.well
    (register_has i c.args.reg c.args.handle.now h.stock h.below h.has).0
    (λ q out. leaves.others q out ∙ filled_others poison u i.view.words q out)) in
    (c.free_as-fate.ensures.made.region ∙ c.self.invariant.0, them.stock, them.holds, c.self.invariant.3)

pub returns-clause-gone : goal.returns-clause-gone
returns-clause-gone g c =
    let i = stock_of c.self.inside.thread c.self.inside.partitions c.self.inside.plain_from c.self.inside.seat.view c.self.inside.registers
    c.self.inside.caches in
    let h = inside i c.args.self.now c.args.handle.now c.args.reg c.self.view_is
    (record { stock = c.kept.ensures.stock; stake = c.requires.stake; below = c.requires.reg; has = inl c.requires.handle }) in
    let own = subst (λ (z : StockValue). register_in z.registers c.args.reg ≡ Own c.args.handle.now)
    (sym c.self.view_is) c.requires.handle in
    let budget = inside_budget i c.args.self.now c.self.view_is c.requires.budget in
    let u = c.args.handle.now.title in let found = c.free_as-fate.result.0.0 in
    let rs = slice_set i.registers c.args.reg Freed in
    let x = freed_view i.view u found in
    let leaves = c.counted_steps_leave.ensures Free u found (poisoned u i.view)
    (can_step c.states_are_owns.ensures c.owns_change.ensures i c.args.reg c.args.handle.now h.stock h.stake budget h.below own) in
    let them = has_as i c.free_as-fate.new.seat.view x rs c.self.inside.caches c.free_as-fate.ensures.made.view refl
    c.self.invariant.1 c.self.invariant.2
    (freed_stock c.counted_steps_leave.ensures c.owns_change.ensures c.states_are_owns.ensures i c.args.reg found c.args.handle.now h.stock
    (inside_aware i c.args.self.now c.self.view_is c.kept.ensures.aware) h.stake budget h.below own)
    (firsts_used _ i x u c.self.invariant.1 (inside_aware i c.args.self.now c.self.view_is c.kept.ensures.aware) c.placed.ensures.well
    (register_has i c.args.reg c.args.handle.now h.stock h.below h.has).0
    (λ q out. leaves.others q out ∙ filled_others poison u i.view.words q out)) in
    subst (λ (z : StockValue). LetsGo Free c.args.handle.now c.args.reg Freed (poisoned u z.view)
    (record { slot = c.slot_name.result; found = c.free_as-fate.result.0 }) z
    (stock_of i.thread i.partitions i.plain_from c.free_as-fate.new.seat.view rs c.self.inside.caches)) c.self.view_is (record {
      slot = c.slot_name.ensures;
      after_is = after_as i c.free_as-fate.new.seat.view x rs c.self.inside.caches c.free_as-fate.ensures.made.view them;
      found = c.free_as-fate.ensures.made.found;
    })
