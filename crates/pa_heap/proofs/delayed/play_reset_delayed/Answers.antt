use Rattle.std.proofs.Common.{◌∙◌, refl, sym, ap}
use Rattle.pa_slot.specs.declared.word.Step.TheVariants as steps
use Rattle.pa_slot.specs.Run.{IsReturning}
use Rattle.pa_trace.specs.declared.script.Op.TheVariants as ops
use Rattle.pa_rules.specs.Nexts.{reset_next}
use Rattle.pa_rules.proofs.Nexts.{reset_steps, reset_refusal}
use Rattle.pa_op_specs.specs.Owing.{IsNotDone}
use Rattle.pa_op_specs.specs.Stocks.{StockRegister}
use Rattle.pa_op_specs.proofs.Refusing.{reset_refuses}
use Rattle.pa_thread_state.proofs.Released.{not_last, reset_back, reset_stake}
use Rattle.pa_heap.proofs.Resetting.{reset_kept}
use Rattle.pa_heap.proofs.Beside.{not_done_beside, kept_beside, beside_does, beside_holds}
use Rattle.pa_heap.proofs.Delaying.{few_wait, reset_step, behind_holds, behind_can, delays_does}
use Rattle.pa_heap.proofs.delayed.play_reset_delayed.Goals as goal

pub wait_behind-requires-clause-stake : goal.wait_behind-requires-clause-stake
wait_behind-requires-clause-stake g c =
    reset_stake c.counted_steps_leave.ensures c.args.stock.now c.let_go-fate.new.self
    c.args.reg c.in-Ok.handle c.let_go-fate.result.0 c.kept.ensures.stock c.requires.stake c.requires.budget c.requires.reg
    (reset_steps _ c.in-Ok.handle (sym (c.for_reset.ensures ∙ ap (λ (r : StockRegister). reset_next r) c.register.ensures) ∙ c.in-Ok.is))
    c.let_go-fate.ensures.gone

pub wait_behind-requires-clause-can : goal.wait_behind-requires-clause-can
wait_behind-requires-clause-can g c =
    let ref =
    reset_steps _ c.in-Ok.handle (sym (c.for_reset.ensures ∙ ap (λ (r : StockRegister). reset_next r) c.register.ensures) ∙ c.in-Ok.is) in
    behind_can c.slots_stay_seen.ensures (ops.Reset c.args.reg) steps.Reset c.in-Ok.handle c.let_go-fate.result.0 c.args.stock.now
    c.let_go-fate.new.self c.args.queue.now
    (reset_step c.counted_steps_leave.ensures c.args.stock.now c.let_go-fate.new.self
    c.args.reg c.in-Ok.handle c.let_go-fate.result.0 c.kept.ensures.stock c.kept.ensures.aware c.requires.stake c.requires.budget
    c.requires.reg ref c.let_go-fate.ensures.gone (c.let_go-fate.ensures.fate.0 c.in-Last.is))
    c.requires.waits
    (reset_back c.args.stock.now c.let_go-fate.new.self c.args.reg c.in-Ok.handle c.let_go-fate.result.0 c.kept.ensures.stock
    c.kept.ensures.aware c.requires.reg ref c.let_go-fate.ensures.gone (c.let_go-fate.ensures.last c.in-Last.is))
    c.requires.room

pub wait_behind-requires-clause-holds : goal.wait_behind-requires-clause-holds
wait_behind-requires-clause-holds g c =
    behind_holds c.slots_stay_seen.ensures (ops.Reset c.args.reg) steps.Reset c.in-Ok.handle c.let_go-fate.result.0 c.args.stock.now
    c.let_go-fate.new.self c.args.queue.now
    (reset_step c.counted_steps_leave.ensures c.args.stock.now c.let_go-fate.new.self
    c.args.reg c.in-Ok.handle c.let_go-fate.result.0 c.kept.ensures.stock c.kept.ensures.aware c.requires.stake c.requires.budget
    c.requires.reg
    (reset_steps _ c.in-Ok.handle (sym (c.for_reset.ensures ∙ ap (λ (r : StockRegister). reset_next r) c.register.ensures) ∙ c.in-Ok.is))
    c.let_go-fate.ensures.gone (c.let_go-fate.ensures.fate.0 c.in-Last.is))
    c.requires.waits

pub returns-in-Err-clause-does : goal.returns-in-Err-clause-does
returns-in-Err-clause-does g c =
    let is = sym (c.for_reset.ensures ∙ ap (λ (r : StockRegister). reset_next r) c.register.ensures) ∙ c.in-Err.is in
    beside_does c.args.line (ops.Reset c.args.reg) c.in-Err.refusal c.args.stock.now c.args.stock.now c.args.queue.now c.requires.waits
    (not_done_beside (ops.Reset c.args.reg) c.in-Err.refusal (reset_refusal IsNotDone _ c.in-Err.refusal is tt tt tt))
    (reset_refuses c.args.stock.now c.args.reg c.in-Err.refusal c.kept.ensures.stock is c.args.line)

pub returns-in-Kept-clause-does : goal.returns-in-Kept-clause-does
returns-in-Kept-clause-does g c =
    let stays : IsReturning steps.Reset c.let_go-fate.result.0.found.0 → ⊥ =
    λ back. not_last c.let_go-fate.result.1 (c.let_go-fate.ensures.fate.1 back) c.in-Kept.is in
    beside_does c.args.line (ops.Reset c.args.reg) _ c.args.stock.now c.let_go-fate.new.self c.args.queue.now c.requires.waits
    (kept_beside (ops.Reset c.args.reg) steps.Reset c.let_go-fate.result.0 refl stays)
    (reset_kept c.counted_steps_leave.ensures c.args.stock.now c.let_go-fate.new.self
    c.args.reg c.in-Ok.handle c.let_go-fate.result.0 c.kept.ensures.stock c.kept.ensures.aware c.requires.stake c.requires.budget
    c.requires.reg
    (reset_steps _ c.in-Ok.handle (sym (c.for_reset.ensures ∙ ap (λ (r : StockRegister). reset_next r) c.register.ensures) ∙ c.in-Ok.is))
    c.let_go-fate.ensures.gone stays c.args.line)

pub returns-in-Kept-clause-waits : goal.returns-in-Kept-clause-waits
returns-in-Kept-clause-waits g c =
    beside_holds c.slots_stay_seen.ensures c.args.line (ops.Reset c.args.reg) _ c.args.stock.now c.let_go-fate.new.self
    c.args.queue.now.slots c.requires.waits
    (reset_kept c.counted_steps_leave.ensures c.args.stock.now c.let_go-fate.new.self
    c.args.reg c.in-Ok.handle c.let_go-fate.result.0 c.kept.ensures.stock c.kept.ensures.aware c.requires.stake c.requires.budget
    c.requires.reg
    (reset_steps _ c.in-Ok.handle (sym (c.for_reset.ensures ∙ ap (λ (r : StockRegister). reset_next r) c.register.ensures) ∙ c.in-Ok.is))
    c.let_go-fate.ensures.gone (λ back. not_last c.let_go-fate.result.1 (c.let_go-fate.ensures.fate.1 back) c.in-Kept.is) c.args.line)

pub returns-in_ok-wait_behind-in-Last-clause-does : goal.returns-in_ok-wait_behind-in-Last-clause-does
returns-in_ok-wait_behind-in-Last-clause-does g c =
    let ref =
    reset_steps _ c.in-Ok.handle (sym (c.for_reset.ensures ∙ ap (λ (r : StockRegister). reset_next r) c.register.ensures) ∙ c.in-Ok.is) in
    delays_does c.slots_stay_seen.ensures (ops.Reset c.args.reg) steps.Reset c.in-Ok.handle c.let_go-fate.result.0 c.args.stock.now
    c.let_go-fate.new.self c.args.queue.now
    (reset_step c.counted_steps_leave.ensures c.args.stock.now c.let_go-fate.new.self
    c.args.reg c.in-Ok.handle c.let_go-fate.result.0 c.kept.ensures.stock c.kept.ensures.aware c.requires.stake c.requires.budget
    c.requires.reg ref c.let_go-fate.ensures.gone (c.let_go-fate.ensures.fate.0 c.in-Last.is))
    c.requires.waits c.args.line c.wait_behind.new.stock c.wait_behind.new.queue c.kept.ensures.stock c.kept-in-Last.ensures.stock
    c.kept-in-Last.ensures.aware
    (reset_stake c.counted_steps_leave.ensures c.args.stock.now c.let_go-fate.new.self
    c.args.reg c.in-Ok.handle c.let_go-fate.result.0 c.kept.ensures.stock c.requires.stake c.requires.budget c.requires.reg ref
    c.let_go-fate.ensures.gone) _ c.lies.ensures
    (reset_back c.args.stock.now c.let_go-fate.new.self c.args.reg c.in-Ok.handle c.let_go-fate.result.0 c.kept.ensures.stock
    c.kept.ensures.aware c.requires.reg ref c.let_go-fate.ensures.gone (c.let_go-fate.ensures.last c.in-Last.is)) c.requires.room
    c.in_ok-wait_behind-in-Last.ensures.delayed

pub returns-in_ok-wait_behind-in-Last-clause-few : goal.returns-in_ok-wait_behind-in-Last-clause-few
returns-in_ok-wait_behind-in-Last-clause-few g c =
    few_wait c.args.line c.in-Ok.handle c.args.queue.now c.wait_behind.new.queue c.let_go-fate.new.self c.wait_behind.new.stock
    c.in_ok-wait_behind-in-Last.ensures.delayed
