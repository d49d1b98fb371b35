use Rattle.std.proofs.Common.{Result, Ok, Err, IfOk}
use Rattle.pa_trace.specs.declared.script.Trace.{Trace}
use Rattle.pa_record.specs.declared.run.Run.{Run}
use Rattle.pa_rules.specs.declared.verdict.Verdict.{Verdict}
use Rattle.pa_rules.specs.Verdicts.{IsVerdict}
use Rattle.pa_dense.specs.Lists.{HasListsOf}
use Rattle.pa_audit.proofs.Alike.{same_verdict}
use Rattle.pa_audit.proofs.clauses.audit.Goals as goal

-- an answer of the run that has the lists is one of the run
told_of_run : {E : Type 0} (a b : Run) (t : Trace) (r : Result Verdict E) → HasListsOf a b →
    IfOk r (λ v. IsVerdict v t b) → IfOk r (λ v. IsVerdict v t a)
told_of_run a b t (Ok v) same is = same_verdict a b t v same is
told_of_run a b t (Err e) same is = tt

pub returns : goal.returns
returns c = told_of_run c.args.run.now c.in_ok-dense.dense c.args.trace.now c.audit_dense.result c.in_ok-dense.ensures c.audit_dense.ensures
