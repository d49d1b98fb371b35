use Rattle.pa_audit_records.proofs.Rising.{records_are_within}
use Rattle.pa_audit_records.proofs.records.records_are_within.Goals as goal

pub returns : goal.returns
returns c = records_are_within
