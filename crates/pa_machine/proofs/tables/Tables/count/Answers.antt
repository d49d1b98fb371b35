use Rattle.std.proofs.Common.{◌/◌, ◌∙◌, refl, ap}
use Rattle.std.specs.Vec.{with_item, with_items}
use Rattle.pa_machine.specs.declared.tables.Tables.{Tables}
use Rattle.pa_slot.specs.Count.{stepped}
use Rattle.pa_machine.specs.Tables.{IsSlotStepped, IsSameSlot}
use Rattle.pa_slot.proofs.Outcomes.{any_err}
use Rattle.pa_machine.proofs.Enabling.{well_counted}
use Rattle.pa_machine.proofs.Rows.{back_after, count_row, same_row, count_entry, changed_row, kept_items}
use Rattle.pa_machine.proofs.tables.Tables.count.Goals as goal

pub count_word-requires : goal.count_word-requires
count_word-requires c = well_counted c.args.self.now c.args.actor c.args.title c.args.step c.requires.sound c.requires.enabled.1

pub step_at-requires-clause-entry : goal.step_at-requires-clause-entry
step_at-requires-clause-entry c =
    rw (c.first_word.ensures, c.deref_mut.ensures.value)
    (count_entry c.args.self.now c.args.actor c.args.title c.args.step c.requires.sound c.requires.enabled)

pub returns-in_err-step_at-clause-sound : goal.returns-in_err-step_at-clause-sound
returns-in_err-step_at-clause-sound c =
    let now = c.args.self.now in
    let after : Tables = record now { slots = with_items now.slots c.step_at.new.slots } in
    let h = c.in_err-step_at.ensures.err in
    (same_row now after (c.args.title.start / 8) h.0 h.1 c.requires.sound
    (changed_row now after IsSameSlot c.deref_mut.result.now c.step_at.new.slots c.first_word.result c.args.title
    c.deref_mut.ensures.value c.first_word.ensures (kept_items now.slots IsSameSlot c.deref_mut.result.now c.step_at.new.slots
    c.first_word.result c.deref_mut.ensures.value h) refl refl refl h) refl h.4).1

pub returns-in_err-step_at-clause-err : goal.returns-in_err-step_at-clause-err
returns-in_err-step_at-clause-err c =
    let now = c.args.self.now in
    let after : Tables = record now { slots = with_items now.slots c.step_at.new.slots } in
    let h = c.in_err-step_at.ensures.err in
    any_err c.from_residual.result _
    (same_row now after (c.args.title.start / 8) h.0 h.1 c.requires.sound
    (changed_row now after IsSameSlot c.deref_mut.result.now c.step_at.new.slots c.first_word.result c.args.title
    c.deref_mut.ensures.value c.first_word.ensures (kept_items now.slots IsSameSlot c.deref_mut.result.now c.step_at.new.slots
    c.first_word.result c.deref_mut.ensures.value h) refl refl refl h) refl h.4).0

pub returns-clause-ok : goal.returns-clause-ok
returns-clause-ok c =
    let now = c.args.self.now in
    let after : Tables = record now {
      words = with_item now.words c.count_place.result c.next-after.result.0;
      slots = with_items now.slots c.step_at.new.slots;
    } in
    let h = c.in_ok-step_at.ensures.ok in
    let next = c.next-after.ensures ∙ ap (λ w. stepped c.args.step w) c.count_word.ensures in
    (count_row now after c.args.actor c.args.title c.args.step c.is_free-back.result h.0 h.1 c.requires.sound c.requires.enabled
    (changed_row now after (IsSlotStepped c.args.step c.args.actor c.is_free-back.result) c.deref_mut.result.now c.step_at.new.slots
    c.first_word.result c.args.title c.deref_mut.ensures.value c.first_word.ensures
    (kept_items now.slots (IsSlotStepped c.args.step c.args.actor c.is_free-back.result) c.deref_mut.result.now c.step_at.new.slots
    c.first_word.result c.deref_mut.ensures.value h) refl refl refl h)
    (rw (← next, ← c.count_place.ensures) refl) (c.is_free-back.ensures ∙ ap back_after next) h.4).happens

pub returns-clause-sound : goal.returns-clause-sound
returns-clause-sound c =
    let now = c.args.self.now in
    let after : Tables = record now {
      words = with_item now.words c.count_place.result c.next-after.result.0;
      slots = with_items now.slots c.step_at.new.slots;
    } in
    let h = c.in_ok-step_at.ensures.ok in
    let next = c.next-after.ensures ∙ ap (λ w. stepped c.args.step w) c.count_word.ensures in
    (count_row now after c.args.actor c.args.title c.args.step c.is_free-back.result h.0 h.1 c.requires.sound c.requires.enabled
    (changed_row now after (IsSlotStepped c.args.step c.args.actor c.is_free-back.result) c.deref_mut.result.now c.step_at.new.slots
    c.first_word.result c.args.title c.deref_mut.ensures.value c.first_word.ensures
    (kept_items now.slots (IsSlotStepped c.args.step c.args.actor c.is_free-back.result) c.deref_mut.result.now c.step_at.new.slots
    c.first_word.result c.deref_mut.ensures.value h) refl refl refl h)
    (rw (← next, ← c.count_place.ensures) refl) (c.is_free-back.ensures ∙ ap back_after next) h.4).sound
