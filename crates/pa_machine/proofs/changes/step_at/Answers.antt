use Rattle.std.proofs.Common.{◌∙◌, refl, None, subst}
use Rattle.std.proofs.lemmas.List.{get_or_default}
use Rattle.pa_machine.specs.declared.slot.Slot.{Slot}
use Rattle.pa_machine.specs.Tables.{IsSlotStepped, IsSameSlot}
use Rattle.pa_slot.proofs.Outcomes.{on_ok, on_err}
use Rattle.pa_machine.proofs.changes.step_at.Goals as goal

pub returns-in-Some-clause-ok : goal.returns-in-Some-clause-ok
returns-in-Some-clause-ok c =
    on_ok c.make_step.result _ _
    (λ n. (
      c.in-Some.slot,
      _,
      get_or_default c.args.slots.now c.args.place None c.index-slots-place.result c.requires.inside ∙ c.in-Some.is,
      refl,
      subst (λ (o : Slot). IsSlotStepped c.args.step c.args.actor c.args.back o c.make_step.new.self) c.deref_mut.ensures.value n,
    ))
    c.make_step.ensures.ok

pub returns-in-Some-clause-err : goal.returns-in-Some-clause-err
returns-in-Some-clause-err c =
    on_err c.make_step.result _ _
    (λ n. (
      c.in-Some.slot,
      _,
      get_or_default c.args.slots.now c.args.place None c.index-slots-place.result c.requires.inside ∙ c.in-Some.is,
      refl,
      subst (λ (o : Slot). IsSameSlot o c.make_step.new.self) c.deref_mut.ensures.value n,
    ))
    c.make_step.ensures.err
