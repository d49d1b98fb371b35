use Rattle.std.proofs.Common.{List, ◌+◌, ◌-◌, sym, subst, arith}
use Rattle.pa_record.specs.declared.numbered.Numbered.{Numbered}
use Rattle.pa_run_reader.proofs.Slots.{ReadSlots, slots_first, slots_more, no_more, slots_here, slots_all, slots_bad}
use Rattle.pa_run_reader.proofs.root.slots.Goals as goal

pub loop-init : goal.loop-init
loop-init c = subst (λ (b : List Numbered). ReadSlots b c.args.bytes.now c.args.bytes.now 0) (sym c.new-batch.ensures.empty)
    (slots_first c.args.bytes.now)

pub loop-preserved : goal.loop-preserved
loop-preserved c =
    let slot : Numbered = c.in-Some-numbered.slot in
    let found = c.in-Some-numbered.ensures.found in
    subst (λ (b : List Numbered). ReadSlots b c.in-Some-numbered.after.now c.args.bytes.now (c.loop.counter + 1))
    (sym c.push.ensures.pushed)
    (slots_more c.loop.counter c.loop.batch slot c.loop.rest.now c.in-Some.front.now c.in-Some-numbered.after.now c.args.bytes.now
    (omega arith)
    c.in-Some.ensures.read c.in-Some.ensures.found c.in-Some-numbered.ensures.read found.0 found.1 c.loop.invariant)

pub returns-in_default-clause-read : goal.returns-in_default-clause-read
returns-in_default-clause-read c =
    slots_here c.loop.counter c.loop.batch c.loop.rest.now c.args.bytes.now c.loop.invariant
    (no_more (16 - c.loop.counter) c.loop.rest.now c.in_default.ensures.read)

pub returns-in_default-numbered-clause-read : goal.returns-in_default-numbered-clause-read
returns-in_default-numbered-clause-read c =
    slots_bad c.loop.counter c.loop.batch c.loop.rest.now c.in-Some.front.now c.args.bytes.now
    (omega arith) c.in-Some.ensures.read c.in_default-numbered.ensures.read c.loop.invariant

pub returns-clause-read : goal.returns-clause-read
returns-clause-read c = slots_all c.loop.counter c.loop.batch c.loop.rest.now c.args.bytes.now c.loop.invariant (omega arith)
