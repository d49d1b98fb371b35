use Rattle.std.proofs.Common.{◌-◌, length}
use Rattle.pa_audit_records.specs.Cuts.{IsLow}
use Rattle.pa_audit_records.proofs.ends.end_of.Given as goal

abbrev pub invariant-entries : goal.invariant-entries
invariant-entries l = IsLow l.phases l.phase l.end

abbrev pub decreases-entries : goal.decreases-entries
decreases-entries l = length l.phases - l.end
