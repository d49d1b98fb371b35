use Rattle.std.proofs.Common.{ℕ, ◌<◌}
use Rattle.pa_record.specs.declared.root.RootEntry.{RootEntry}
use Rattle.pa_rules.specs.Roots.{IsEntry, journal_at}
use Rattle.pa_test_audit.specs.Versions.{IsActOf}
use Rattle.pa_test_audit.proofs.homed.is_journal_of.Given as goal

abbrev pub invariant-loop-entry : goal.invariant-loop-entry
invariant-loop-entry l = (i : ℕ) (e : RootEntry) → i < l.entry-index → IsEntry (journal_at l.roots) l.partition i e →
    IsActOf l.version l.partition e.act
