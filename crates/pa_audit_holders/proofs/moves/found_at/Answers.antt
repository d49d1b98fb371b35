use Rattle.pa_audit_records.proofs.Seeking.{line_within}
use Rattle.pa_audit_holders.proofs.Threading.{thread_is}
use Rattle.pa_audit_holders.proofs.moves.found_at.Goals as goal

pub bounds-records-at : goal.bounds-records-at
bounds-records-at c = line_within c.args.records.now c.args.line c.args.at c.requires

pub returns : goal.returns
returns c = thread_is c.args.records.now c.args.line c.args.at _ c.requires
