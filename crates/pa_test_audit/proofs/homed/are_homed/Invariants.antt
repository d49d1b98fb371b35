use Rattle.std.proofs.Common.{◌≡◌, ℕ, ◌<◌}
use Rattle.pa_audit_records.specs.ByKeys.{value_at}
use Rattle.pa_rules.specs.Roots.{journal_at}
use Rattle.pa_audit_holders.specs.Homes.{AreHomedIn}
use Rattle.pa_test_audit.specs.Versions.{AreActsOf}
use Rattle.pa_test_audit.proofs.homed.are_homed.Given as goal

abbrev pub invariant-loop-journal : goal.invariant-loop-journal
invariant-loop-journal l = record {
  at : l.partition ≡ l.journal-index;
  homed : (q : ℕ) → q < l.partition → AreHomedIn (journal_at l.roots) (value_at l.homes) q;
  acts : (q : ℕ) → q < l.partition → AreActsOf l.version (journal_at l.roots) q;
}
