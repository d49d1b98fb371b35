use Rattle.pa_audit_holders.proofs.Threading.{thread_none}
use Rattle.pa_audit_holders.proofs.moves.thread_on.Goals as goal

pub returns-in-None : goal.returns-in-None
returns-in-None c = thread_none c.args.records.now c.args.line c.in-None.ensures.none
