use Rattle.pa_audit_records.specs.ByKeys.{value_at}
use Rattle.pa_rules.specs.Roots.{journal_at}
use Rattle.pa_audit_holders.specs.Homes.{HasAbove, HasHomes}
use Rattle.pa_audit_holders.proofs.homes.enter_all.Given as goal

abbrev pub invariant-loop-entry : goal.invariant-loop-entry
invariant-loop-entry l = record {
  homes : HasHomes (journal_at l.roots) (value_at l.homes);
  above : HasAbove (journal_at l.roots) l.partition l.entry-index (value_at l.homes);
}
