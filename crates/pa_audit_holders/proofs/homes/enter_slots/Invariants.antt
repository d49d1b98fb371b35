use Rattle.std.proofs.Common.{take}
use Rattle.pa_audit_records.specs.ByKeys.{value_at}
use Rattle.pa_record.specs.Root.{names}
use Rattle.pa_rules.specs.Roots.{journal_at}
use Rattle.pa_audit_holders.specs.Homes.{EntersSlots, HasHomes}
use Rattle.pa_audit_holders.proofs.homes.enter_slots.Given as goal

abbrev pub invariant-loop-slot : goal.invariant-loop-slot
invariant-loop-slot l = record {
  homes : HasHomes (journal_at l.roots) (value_at l.homes);
  enters : EntersSlots (value_at l.fn.homes) (value_at l.homes) (names (take l.slot-index l.slots));
}
