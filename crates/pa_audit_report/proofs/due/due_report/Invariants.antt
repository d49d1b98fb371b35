use Rattle.pa_rules.specs.Roots.{journal_at}
use Rattle.pa_audit_report.specs.Due.{AreColumns}
use Rattle.pa_audit_report.proofs.due.due_report.Given as goal

abbrev pub invariant-loop-partition : goal.invariant-loop-partition
invariant-loop-partition l =
    AreColumns l.phases l.trace.partitions l.trace.threads l.records l.run.pool.items
    (journal_at l.run.roots.items) l.partition l.columns.items
