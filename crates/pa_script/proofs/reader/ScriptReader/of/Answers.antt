use Rattle.std.proofs.Common.{refl, sym, subst}
use Rattle.std.proofs.lemmas.Bool.{false≢true}
use Rattle.pa_trace.specs.declared.fault.TraceFault.{TraceFault}
use Rattle.pa_script.specs.Faults.{IsScriptFault}
use Rattle.pa_script.proofs.Behind.{head_past, head_end}
use Rattle.pa_script.proofs.Unread.{head_begins, head_faulty}
use Rattle.pa_script.proofs.reader.ScriptReader.of.Goals as goal

pub returns-in_default-clause-fault : goal.returns-in_default-clause-fault
returns-in_default-clause-fault c =
    head_end c.args.bytes.now c.without_end.result c.in_default.ensures c.without_end.ensures.past c.without_end.ensures.bad

pub returns-then-is_past-clause-fault : goal.returns-then-is_past-clause-fault
returns-then-is_past-clause-fault c =
    head_past c.args.bytes.now c.in-Some.first.now c.in-Some.rest.now c.in-Some.ensures.0 c.in-Some.ensures.1 (c.if-is_past.ensures.0 refl)

pub returns-in-Ok-clause-head : goal.returns-in-Ok-clause-head
returns-in-Ok-clause-head c =
    head_begins c.args.bytes.now c.in-Some.first.now c.in-Some.rest.now c.in-Some.ensures.0 c.in-Some.ensures.1
    (λ h. false≢true (c.if-is_past.ensures.1 h))
    c.in-Ok.head (sym c.in-Ok.ensures)

pub returns-in-Err-clause-fault : goal.returns-in-Err-clause-fault
returns-in-Err-clause-fault c =
    subst (λ (e : TraceFault). IsScriptFault e c.args.bytes.now) (sym c.fault_at.ensures.told)
    (head_faulty c.args.bytes.now c.in-Some.first.now c.in-Some.rest.now c.in-Some.ensures.0 c.in-Some.ensures.1
    (λ h. false≢true (c.if-is_past.ensures.1 h))
    c.in-Err.fault (sym c.in-Err.ensures))
