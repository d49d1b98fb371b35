use Rattle.std.proofs.Common.{◌≡◌}
use Rattle.pa_rules.specs.Roots.{journal_at}
use Rattle.pa_audit_holders.specs.Holding.{EntriesSoFar}
use Rattle.pa_audit_holders.proofs.Placing.{HaveTablesTo}
use Rattle.pa_audit_holders.proofs.holders.holders_meet.Given as goal

abbrev pub invariant-loop-journal : goal.invariant-loop-journal
invariant-loop-journal l = record {
  at : l.partition ≡ l.journal-index;
  tables : HaveTablesTo l.records l.roots l.tables.items l.partition;
  entries : EntriesSoFar l.records (journal_at l.roots) l.partition l.misfit;
}
