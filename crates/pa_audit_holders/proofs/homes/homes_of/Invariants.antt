use Rattle.std.proofs.Common.{◌≡◌}
use Rattle.pa_audit_records.specs.ByKeys.{value_at}
use Rattle.pa_rules.specs.Roots.{journal_at}
use Rattle.pa_audit_holders.specs.Homes.{HasAbove, HasHomes}
use Rattle.pa_audit_holders.proofs.homes.homes_of.Given as goal

abbrev pub invariant-loop-journal : goal.invariant-loop-journal
invariant-loop-journal l = record {
  at : l.partition ≡ l.journal-index;
  homes : HasHomes (journal_at l.roots) (value_at l.homes);
  above : HasAbove (journal_at l.roots) l.partition 0 (value_at l.homes);
}
