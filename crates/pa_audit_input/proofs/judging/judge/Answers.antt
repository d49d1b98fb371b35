use Rattle.std.proofs.Common.{subst}
use Rattle.pa_audit_input.specs.Judged.{IsJudgementOn}
use Rattle.pa_audit_input.proofs.Together.{legal_input}
use Rattle.pa_audit_input.proofs.judging.judge.Goals as goal

pub returns-in-Legal-clause-verdict : goal.returns-in-Legal-clause-verdict
returns-in-Legal-clause-verdict c =
    legal_input c.in-Legal._trace c.in-Legal._run c.args.bytes.now
    (subst (λ j. IsJudgementOn j c.args.bytes.now) c.in-Legal.is c.in_ok-found.ensures.judged)
