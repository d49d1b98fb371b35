use Rattle.std.proofs.Common.{◌≡◌, ◌∙◌, ◌<◌, ℕ, refl, None, subst, length, slice_index, slice_set}
use Rattle.std.proofs.lemmas.List.{get_or_default}
use Rattle.pa_machine.specs.declared.slot.Slot.{Slot}
use Rattle.pa_machine.specs.Tables.{IsNextSlot}
use Rattle.pa_machine.proofs.changes.hand_ref_at.Goals as goal

pub returns-in-Some : goal.returns-in-Some
returns-in-Some c = (
  c.in-Some.slot,
  _,
  get_or_default c.args.slots.now c.args.place None c.index-slots-place.result c.requires.inside ∙ c.in-Some.is,
  refl,
  subst (λ (o : Slot). (k : ℕ) × (k < length o.refs.items) × (slice_index o.refs.items k ≡ c.args.from)
      × IsNextSlot o c.hand_ref.new.self o.free o.own (slice_set o.refs.items k c.args.to)) c.deref_mut.ensures.value c.hand_ref.ensures,
)
