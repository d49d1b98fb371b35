use Rattle.pa_audit_report.specs.Due.{GathersTo}
use Rattle.pa_audit_report.proofs.due.by_phases.Given as goal

abbrev pub invariant-loop-at : goal.invariant-loop-at
invariant-loop-at l = GathersTo l.phases l.partitions l.columns l.at 0 l.lines.items

abbrev pub invariant-loop-partition : goal.invariant-loop-partition
invariant-loop-partition l = GathersTo l.phases l.partitions l.columns l.at l.partition l.lines.items
