use Rattle.std.proofs.Common.{◌≡◌, ℕ, ◌<◌, Some}
use Rattle.std.specs.Prelude.{Contains}
use Rattle.pa_audit_records.specs.ByKeys.{value_at}
use Rattle.pa_slot.specs.declared.word.SlotName.{SlotName}
use Rattle.pa_record.specs.declared.root.RootEntry.{RootEntry}
use Rattle.pa_record.specs.Laws.{leaves_by}
use Rattle.pa_rules.specs.Roots.{IsEntry, journal_at}
use Rattle.pa_audit_records.specs.Keys.{name_key}
use Rattle.pa_audit_holders.specs.Homes.{home_by}
use Rattle.pa_test_audit.proofs.homed.is_journal_homed.Given as goal

abbrev pub invariant-loop-entry : goal.invariant-loop-entry
invariant-loop-entry l = (i : ℕ) (e : RootEntry) (s : SlotName) → i < l.entry-index →
    IsEntry (journal_at l.roots) l.partition i e → Contains (leaves_by e.act) s
    → value_at l.homes (name_key s) ≡ Some (home_by l.partition e.act)
