use Rattle.std.proofs.Common.{◌≡◌, length}
use Rattle.pa_rules.specs.Roots.{journal_at}
use Rattle.pa_audit_report.specs.Due.{IsColumn}
use Rattle.pa_audit_report.proofs.due.column_of.Given as goal

abbrev pub invariant-loop-at : goal.invariant-loop-at
invariant-loop-at l = record {
  many : length l.lines.items ≡ l.at;
  column : IsColumn l.trace.partitions l.trace.threads l.records l.run.pool.items (journal_at l.run.roots.items) l.partition l.lines.items;
}
