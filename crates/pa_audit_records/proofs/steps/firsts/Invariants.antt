use Rattle.std.proofs.Common.{◌≤◌, length}
use Rattle.pa_audit_records.specs.ByKeys.{value_at}
use Rattle.pa_audit_records.specs.Steps.{AreFirstsFrom}
use Rattle.pa_audit_records.proofs.steps.firsts.Given as goal

abbrev pub invariant-loop-at : goal.invariant-loop-at
invariant-loop-at l = record { below : l.at ≤ length l.records; firsts : AreFirstsFrom l.records (value_at l.firsts) l.at }

abbrev pub decreases-loop-at : goal.decreases-loop-at
decreases-loop-at l = l.at
