use Rattle.std.proofs.Common.{◌≡◌, ◌+◌, ◌-◌, [], length, refl, sym, ap, subst}
use Rattle.std.proofs.lemmas.Bool.{eqb-true, eqb-false, false≢true}
use Rattle.std.proofs.lemmas.List.{nil_from_length}
use Rattle.pa_trace.specs.declared.fault.TraceFault.{TraceFault}
use Rattle.pa_trace.specs.declared.fault.TraceFault.TheVariants.{Limit}
use Rattle.pa_trace.specs.Cut.{told}
use Rattle.pa_trace.specs.Unread.{Unread}
use Rattle.pa_script.specs.Unread.{IsScriptLineRead, IsScriptEndRead, IsScriptFaultRead}
use Rattle.pa_script.proofs.Unread.{line_past, line_faulty, line_goes_on, end_reached, end_faulty}
use Rattle.pa_script.proofs.reader.ScriptReader.next.Goals as goal

pub returns-then-is_empty-clause-line : goal.returns-then-is_empty-clause-line
returns-then-is_empty-clause-line c =
    let s = c.self.inside in
    let u : Unread = record { head = s.head; rest = s.rest.now; left = s.left; number = s.number } in
    let none : s.rest.now ≡ [] = nil_from_length s.rest.now (eqb-true (length s.rest.now) 0 (sym c.if-is_empty.ensures)) in
    subst (λ v. IsScriptEndRead v v) c.self.view_is (end_reached u none)

pub returns-in_default-clause-fault : goal.returns-in_default-clause-fault
returns-in_default-clause-fault c =
    let s = c.self.inside in
    let u : Unread = record { head = s.head; rest = s.rest.now; left = s.left; number = s.number } in
    let some' : s.rest.now ≡ [] → ⊥ = λ none. eqb-false (length s.rest.now) 0 (sym c.if-is_empty.ensures) (ap length none) in
    subst (λ v. IsScriptFaultRead v c.without_end.result) c.self.view_is
    (end_faulty u c.without_end.result c.in_default.ensures some' c.without_end.ensures.past c.without_end.ensures.bad)

pub returns-then-is_past-clause-fault : goal.returns-then-is_past-clause-fault
returns-then-is_past-clause-fault c =
    let s = c.self.inside in
    let u : Unread = record { head = s.head; rest = s.rest.now; left = s.left; number = s.number } in
    subst (λ v. IsScriptFaultRead v (Limit s.number)) c.self.view_is
    (line_past u c.in-Some.line.now c.in-Some.after.now c.in-Some.ensures.0 c.in-Some.ensures.1 (c.if-is_past.ensures.0 refl))

pub returns-in-Ok-clause-line : goal.returns-in-Ok-clause-line
returns-in-Ok-clause-line c =
    let s = c.self.inside in
    let u : Unread = record { head = s.head; rest = s.rest.now; left = s.left; number = s.number } in
    let line = c.in-Some.line.now in
    let v : Unread = record { head = s.head; rest = c.in-Some.after.now; left = s.left - (length line + 1); number = s.number + 1 } in
    subst (λ w. IsScriptLineRead w c.in-Ok.line v) c.self.view_is
    (line_goes_on u line c.in-Some.after.now c.in-Some.ensures.0 c.in-Some.ensures.1
    (λ h. false≢true (c.if-is_past.ensures.1 h)) c.in-Ok.line (sym c.in-Ok.ensures))

pub returns-in-Err-clause-fault : goal.returns-in-Err-clause-fault
returns-in-Err-clause-fault c =
    let s = c.self.inside in
    let u : Unread = record { head = s.head; rest = s.rest.now; left = s.left; number = s.number } in
    let faulty = line_faulty u c.in-Some.line.now c.in-Some.after.now c.in-Some.ensures.0 c.in-Some.ensures.1
    (λ h. false≢true (c.if-is_past.ensures.1 h))
    c.in-Err.fault (sym c.in-Err.ensures) in
    subst (λ (e : TraceFault). IsScriptFaultRead c.args.self.now e) (sym c.fault_at.ensures.told)
    (subst (λ v. IsScriptFaultRead v (told s.number c.in-Err.fault)) c.self.view_is faulty)
