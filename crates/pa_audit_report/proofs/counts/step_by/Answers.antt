use Rattle.pa_audit_report.proofs.Counting.{made_step, done_some}
use Rattle.pa_audit_report.proofs.counts.step_by.Goals as goal

pub returns-in-Made-clause-some : goal.returns-in-Made-clause-some
returns-in-Made-clause-some c = made_step c.args.told c.in-Made.seen c.in-Made.usable c.in-Made.is

pub returns-in-Done-clause-some : goal.returns-in-Done-clause-some
returns-in-Done-clause-some c = done_some c.args.told c.in-Done.seen c.done.result c.in-Done.is c.done.ensures.some
