use Rattle.std.proofs.Common.{◌∙◌, refl, sym, ap, subst, inl, inr}
use Rattle.std.specs.Prelude.{Some}
use Rattle.pa_slot.specs.declared.word.Step.TheVariants as steps
use Rattle.pa_slot.specs.Run.{IsReturning}
use Rattle.pa_trace.specs.declared.script.Op.TheVariants as ops
use Rattle.pa_record.specs.declared.entry.Answer.{Answer}
use Rattle.pa_record.specs.declared.entry.Answer.TheVariants.{NotOwner, SecondFree}
use Rattle.pa_rules.specs.Nexts.{free_next}
use Rattle.pa_rules.proofs.Nexts.{free_steps, free_looks, free_refusal, by_held}
use Rattle.pa_op_specs.specs.Owing.{IsNotDone}
use Rattle.pa_op_specs.specs.Plays.{DoesOp}
use Rattle.pa_op_specs.specs.Stocks.{StockRegister}
use Rattle.pa_op_specs.proofs.Refusing.{free_refuses}
use Rattle.pa_thread_state.proofs.Released.{not_last, free_back, free_stake}
use Rattle.pa_heap.proofs.Freeing.{free_kept}
use Rattle.pa_heap.proofs.Through.{free_looked}
use Rattle.pa_heap.proofs.Beside.{not_done_beside, kept_beside, beside_does, beside_holds}
use Rattle.pa_heap.proofs.Delaying.{few_wait, free_step, behind_holds, behind_can, delays_does}
use Rattle.pa_heap.proofs.delayed.play_free_delayed.Goals as goal

pub wait_behind-requires-clause-stake : goal.wait_behind-requires-clause-stake
wait_behind-requires-clause-stake g c =
    free_stake c.counted_steps_leave.ensures c.owns_change.ensures c.states_are_owns.ensures c.args.stock.now c.give_up-fate.new.self
    c.args.reg c.in-Step.handle c.give_up-fate.result.0 c.kept.ensures.stock c.requires.stake c.requires.budget c.requires.reg
    (free_steps _ c.in-Step.handle (sym (c.for_free.ensures ∙ ap (λ (r : StockRegister). free_next r) c.register.ensures) ∙ c.in-Step.is))
    c.give_up-fate.ensures.gone

pub wait_behind-requires-clause-can : goal.wait_behind-requires-clause-can
wait_behind-requires-clause-can g c =
    let own =
    free_steps _ c.in-Step.handle (sym (c.for_free.ensures ∙ ap (λ (r : StockRegister). free_next r) c.register.ensures) ∙ c.in-Step.is) in
    behind_can c.slots_stay_seen.ensures (ops.Free c.args.reg) steps.Free c.in-Step.handle c.give_up-fate.result.0 c.args.stock.now
    c.give_up-fate.new.self c.args.queue.now
    (free_step c.counted_steps_leave.ensures c.owns_change.ensures c.states_are_owns.ensures c.args.stock.now c.give_up-fate.new.self
    c.args.reg c.in-Step.handle c.give_up-fate.result.0 c.kept.ensures.stock c.kept.ensures.aware c.requires.stake c.requires.budget
    c.requires.reg own c.give_up-fate.ensures.gone (c.give_up-fate.ensures.fate.0 c.in-Last.is))
    c.requires.waits
    (free_back c.args.stock.now c.give_up-fate.new.self c.args.reg c.in-Step.handle c.give_up-fate.result.0 c.kept.ensures.stock
    c.kept.ensures.aware c.requires.reg own c.give_up-fate.ensures.gone (c.give_up-fate.ensures.last c.in-Last.is))
    c.requires.room

pub wait_behind-requires-clause-holds : goal.wait_behind-requires-clause-holds
wait_behind-requires-clause-holds g c =
    behind_holds c.slots_stay_seen.ensures (ops.Free c.args.reg) steps.Free c.in-Step.handle c.give_up-fate.result.0 c.args.stock.now
    c.give_up-fate.new.self c.args.queue.now
    (free_step c.counted_steps_leave.ensures c.owns_change.ensures c.states_are_owns.ensures c.args.stock.now c.give_up-fate.new.self
    c.args.reg c.in-Step.handle c.give_up-fate.result.0 c.kept.ensures.stock c.kept.ensures.aware c.requires.stake c.requires.budget
    c.requires.reg
    (free_steps _ c.in-Step.handle (sym (c.for_free.ensures ∙ ap (λ (r : StockRegister). free_next r) c.register.ensures) ∙ c.in-Step.is))
    c.give_up-fate.ensures.gone (c.give_up-fate.ensures.fate.0 c.in-Last.is))
    c.requires.waits

pub returns-in-Refused-clause-does : goal.returns-in-Refused-clause-does
returns-in-Refused-clause-does g c =
    let is = sym (c.for_free.ensures ∙ ap (λ (r : StockRegister). free_next r) c.register.ensures) ∙ c.in-Refused.is in
    beside_does c.args.line (ops.Free c.args.reg) c.in-Refused.refusal c.args.stock.now c.args.stock.now c.args.queue.now c.requires.waits
    (not_done_beside (ops.Free c.args.reg) c.in-Refused.refusal (free_refusal IsNotDone _ c.in-Refused.refusal is tt tt tt))
    (free_refuses c.args.stock.now c.args.reg c.in-Refused.refusal c.kept.ensures.stock is c.args.line)

pub returns-in-Kept-clause-does : goal.returns-in-Kept-clause-does
returns-in-Kept-clause-does g c =
    let stays : IsReturning steps.Free c.give_up-fate.result.0.found.0 → ⊥ =
    λ back. not_last c.give_up-fate.result.1 (c.give_up-fate.ensures.fate.1 back) c.in-Kept.is in
    beside_does c.args.line (ops.Free c.args.reg) _ c.args.stock.now c.give_up-fate.new.self c.args.queue.now c.requires.waits
    (kept_beside (ops.Free c.args.reg) steps.Free c.give_up-fate.result.0 refl stays)
    (free_kept c.counted_steps_leave.ensures c.owns_change.ensures c.states_are_owns.ensures c.args.stock.now c.give_up-fate.new.self
    c.args.reg c.in-Step.handle c.give_up-fate.result.0 c.kept.ensures.stock c.kept.ensures.aware c.requires.stake c.requires.budget
    c.requires.reg
    (free_steps _ c.in-Step.handle (sym (c.for_free.ensures ∙ ap (λ (r : StockRegister). free_next r) c.register.ensures) ∙ c.in-Step.is))
    c.give_up-fate.ensures.gone stays c.args.line)

pub returns-in-Kept-clause-waits : goal.returns-in-Kept-clause-waits
returns-in-Kept-clause-waits g c =
    beside_holds c.slots_stay_seen.ensures c.args.line (ops.Free c.args.reg) _ c.args.stock.now c.give_up-fate.new.self
    c.args.queue.now.slots c.requires.waits
    (free_kept c.counted_steps_leave.ensures c.owns_change.ensures c.states_are_owns.ensures c.args.stock.now c.give_up-fate.new.self
    c.args.reg c.in-Step.handle c.give_up-fate.result.0 c.kept.ensures.stock c.kept.ensures.aware c.requires.stake c.requires.budget
    c.requires.reg
    (free_steps _ c.in-Step.handle (sym (c.for_free.ensures ∙ ap (λ (r : StockRegister). free_next r) c.register.ensures) ∙ c.in-Step.is))
    c.give_up-fate.ensures.gone (λ back. not_last c.give_up-fate.result.1 (c.give_up-fate.ensures.fate.1 back) c.in-Kept.is) c.args.line)

pub returns-in_ok-wait_behind-in-Last-clause-does : goal.returns-in_ok-wait_behind-in-Last-clause-does
returns-in_ok-wait_behind-in-Last-clause-does g c =
    let own =
    free_steps _ c.in-Step.handle (sym (c.for_free.ensures ∙ ap (λ (r : StockRegister). free_next r) c.register.ensures) ∙ c.in-Step.is) in
    delays_does c.slots_stay_seen.ensures (ops.Free c.args.reg) steps.Free c.in-Step.handle c.give_up-fate.result.0 c.args.stock.now
    c.give_up-fate.new.self c.args.queue.now
    (free_step c.counted_steps_leave.ensures c.owns_change.ensures c.states_are_owns.ensures c.args.stock.now c.give_up-fate.new.self
    c.args.reg c.in-Step.handle c.give_up-fate.result.0 c.kept.ensures.stock c.kept.ensures.aware c.requires.stake c.requires.budget
    c.requires.reg own c.give_up-fate.ensures.gone (c.give_up-fate.ensures.fate.0 c.in-Last.is))
    c.requires.waits c.args.line c.wait_behind.new.stock c.wait_behind.new.queue c.kept.ensures.stock c.kept-in-Last.ensures.stock
    c.kept-in-Last.ensures.aware
    (free_stake c.counted_steps_leave.ensures c.owns_change.ensures c.states_are_owns.ensures c.args.stock.now c.give_up-fate.new.self
    c.args.reg c.in-Step.handle c.give_up-fate.result.0 c.kept.ensures.stock c.requires.stake c.requires.budget c.requires.reg own
    c.give_up-fate.ensures.gone) _ c.lies.ensures
    (free_back c.args.stock.now c.give_up-fate.new.self c.args.reg c.in-Step.handle c.give_up-fate.result.0 c.kept.ensures.stock
    c.kept.ensures.aware c.requires.reg own c.give_up-fate.ensures.gone (c.give_up-fate.ensures.last c.in-Last.is)) c.requires.room
    c.in_ok-wait_behind-in-Last.ensures.delayed

pub returns-in_ok-wait_behind-in-Last-clause-few : goal.returns-in_ok-wait_behind-in-Last-clause-few
returns-in_ok-wait_behind-in-Last-clause-few g c =
    few_wait c.args.line c.in-Step.handle c.args.queue.now c.wait_behind.new.queue c.give_up-fate.new.self c.wait_behind.new.stock
    c.in_ok-wait_behind-in-Last.ensures.delayed

pub returns-in-Look-clause-does : goal.returns-in-Look-clause-does
returns-in-Look-clause-does g c =
    let by = by_held c.look-seen.result.found.0 (NotOwner c.look-seen.result) (SecondFree (Some c.look-seen.result)) in
    beside_does c.args.line (ops.Free c.args.reg) _ c.args.stock.now c.look-seen.new.self c.args.queue.now c.requires.waits
    (not_done_beside (ops.Free c.args.reg) _ (subst IsNotDone (sym c.looked_free.ensures)
    (elim by [ inl held ↦ subst IsNotDone (sym held.1) tt | inr freed ↦ subst IsNotDone (sym freed.1) tt ])))
    (subst (λ (a : Answer). DoesOp c.args.line (ops.Free c.args.reg) a c.args.stock.now c.look-seen.new.self) (sym c.looked_free.ensures)
    (free_looked c.looks_leave.ensures c.args.stock.now c.look-seen.new.self c.args.reg c.in-Look.handle c.look-seen.result _
    c.kept.ensures.stock c.kept.ensures.aware c.requires.stake c.requires.reg
    (free_looks _ c.in-Look.handle (sym (c.for_free.ensures ∙ ap (λ (r : StockRegister). free_next r) c.register.ensures) ∙ c.in-Look.is))
    c.look-seen.ensures by c.args.line))

pub returns-in-Look-clause-waits : goal.returns-in-Look-clause-waits
returns-in-Look-clause-waits g c =
    beside_holds c.slots_stay_seen.ensures c.args.line (ops.Free c.args.reg) _ c.args.stock.now c.look-seen.new.self
    c.args.queue.now.slots c.requires.waits
    (free_looked c.looks_leave.ensures c.args.stock.now c.look-seen.new.self c.args.reg c.in-Look.handle c.look-seen.result _
    c.kept.ensures.stock c.kept.ensures.aware c.requires.stake c.requires.reg
    (free_looks _ c.in-Look.handle (sym (c.for_free.ensures ∙ ap (λ (r : StockRegister). free_next r) c.register.ensures) ∙ c.in-Look.is))
    c.look-seen.ensures (by_held c.look-seen.result.found.0 (NotOwner c.look-seen.result) (SecondFree (Some c.look-seen.result)))
    c.args.line)
