use Rattle.std.proofs.Common.{◌∙◌, refl, None, true, subst}
use Rattle.std.proofs.lemmas.List.{get_or_default}
use Rattle.pa_machine.specs.declared.slot.Slot.{Slot}
use Rattle.pa_machine.specs.Tables.{IsIssuedSlot}
use Rattle.pa_machine.proofs.changes.issue_sealed_at.Goals as goal

pub returns-in-Some : goal.returns-in-Some
returns-in-Some c = (
  c.in-Some.slot,
  _,
  get_or_default c.args.slots.now c.args.place None c.index-slots-place.result c.requires.inside ∙ c.in-Some.is,
  refl,
  subst (λ (o : Slot). IsIssuedSlot true c.args.actor o c.issue.new.self) c.deref_mut.ensures.value c.issue.ensures,
)
