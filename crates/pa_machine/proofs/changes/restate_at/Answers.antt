use Rattle.std.proofs.Common.{◌∙◌, refl, None, subst}
use Rattle.std.proofs.lemmas.List.{get_or_default}
use Rattle.pa_machine.specs.declared.slot.Slot.{Slot}
use Rattle.pa_machine.specs.Tables.{IsRestatedSlot}
use Rattle.pa_machine.proofs.changes.restate_at.Goals as goal

pub returns-in-Some : goal.returns-in-Some
returns-in-Some c = (
  c.in-Some.slot,
  _,
  get_or_default c.args.slots.now c.args.place None c.index-slots-place.result c.requires.inside ∙ c.in-Some.is,
  refl,
  subst (λ (o : Slot). IsRestatedSlot c.args.actor c.args.state o c.restate.new.self) c.deref_mut.ensures.value c.restate.ensures,
)
