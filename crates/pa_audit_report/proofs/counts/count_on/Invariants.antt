use Rattle.std.proofs.Common.{take}
use Rattle.pa_audit_records.specs.ByKeys.{value_at}
use Rattle.pa_audit_report.specs.Counts.{HasCounted}
use Rattle.pa_audit_report.proofs.counts.count_on.Given as goal

abbrev pub invariant-loop-at : goal.invariant-loop-at
invariant-loop-at l = HasCounted (value_at l.homes) l.partition (take l.at l.records) l.count
