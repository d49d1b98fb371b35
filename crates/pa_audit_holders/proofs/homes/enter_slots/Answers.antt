use Rattle.std.proofs.Common.{List, sym, subst, take}
use Rattle.pa_audit_records.specs.ByKeys.{value_at}
use Rattle.pa_slot.specs.declared.word.SlotName.{SlotName}
use Rattle.pa_record.specs.Root.{names}
use Rattle.pa_audit_holders.specs.Homes.{EntersSlots}
use Rattle.pa_audit_holders.proofs.Housing.{enters_more, names_more, slot_among}
use Rattle.pa_audit_holders.proofs.homes.enter_slots.Goals as goal

pub enter-requires-clause-home : goal.enter-requires-clause-home
enter-requires-clause-home c = c.requires.home _ (slot_among c.args.slots.now c.loop-slot.slot-index _ c.loop-slot-test.true)

pub loop-slot-preserved : goal.loop-slot-preserved
loop-slot-preserved c =
    let l = c.loop-slot in
    let f = value_at c.args.homes.now in
    let g = value_at l.homes in
    let h = value_at c.enter.new.homes in
    record {
      homes = c.enter.ensures.homes;
      enters = subst (λ (xs : List SlotName). EntersSlots f h xs) (sym (names_more c.args.slots.now l.slot-index _ c.loop-slot-test.true))
          (enters_more f g h (names (take l.slot-index c.args.slots.now)) _ l.invariant.enters c.in_ok-enter.ensures.enters);
    }
