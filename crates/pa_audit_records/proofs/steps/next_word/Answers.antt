use Rattle.pa_audit_records.proofs.Stepping.{refused_last}
use Rattle.pa_audit_records.proofs.steps.next_word.Goals as goal

pub returns-in-Some-clause-last : goal.returns-in-Some-clause-last
returns-in-Some-clause-last c =
    refused_last c.args.records.now c.args.slot c.args.word.0 c.in-Some.ensures.step.0 c.in-Some.step c.apply.result c.requires.rising
    c.in-Some.ensures.step.1 c.apply.ensures.refused

pub returns-in-None-clause-last : goal.returns-in-None-clause-last
returns-in-None-clause-last c = λ m p first can. c.in-None.ensures.none m p first
