use Rattle.std.proofs.Common.{◌≡◌, List, Some, take, refl, sym, subst, inl, inr}
use Rattle.std.specs.Prelude.{Contains}
use Rattle.std.proofs.Math.Seq.{take_all}
use Rattle.std.proofs.lemmas.List.Elements.{Contains-push_cases}
use Rattle.pa_slot.specs.declared.word.SlotName.{SlotName}
use Rattle.pa_record.specs.declared.numbered.Numbered.{Numbered}
use Rattle.pa_record.specs.Root.{names}
use Rattle.pa_audit_records.specs.ByKeys.{value_at}
use Rattle.pa_audit_records.specs.Keys.{name_key}
use Rattle.pa_audit_holders.proofs.Housing.{names_more}
use Rattle.pa_test_audit.proofs.homed.are_slots_homed.Goals as goal

pub loop-slot-preserved : goal.loop-slot-preserved
loop-slot-preserved c = λ s among.
    let slots = c.args.slots.now in
    let i = c.loop-slot.slot-index in
    elim (Contains-push_cases (names (take i slots)) _ s
    (subst (λ (xs : List SlotName). Contains xs s) (names_more slots i _ c.loop-slot-test.true) among)) [
      | inl before ↦ c.loop-slot.invariant s before
      | inr same ↦ subst (λ (z : SlotName). value_at c.args.homes.now (name_key z) ≡ Some c.args.home) same (c.if-not-is_homed.ensures refl)
    ]

pub returns : goal.returns
returns c = λ yes s among. c.loop-slot.invariant s
    (subst (λ (xs : List Numbered). Contains (names xs) s)
    (sym (take_all c.loop-slot.slot-index c.args.slots.now c.loop-slot-test.false)) among)
