use Rattle.std.proofs.Common.{◌∙◌, true, refl, ap}
use Rattle.std.specs.Vec.{with_item, with_items}
use Rattle.pa_slot.specs.declared.word.Step.TheVariants.{Issue}
use Rattle.pa_machine.specs.declared.tables.Tables.{Tables}
use Rattle.pa_slot.specs.Count.{stepped}
use Rattle.pa_machine.specs.Tables.{IsIssuedSlot}
use Rattle.pa_machine.proofs.Enabling.{actor_is, well_free}
use Rattle.pa_machine.proofs.Reading.{reads_free}
use Rattle.pa_machine.proofs.Rows.{sealed_row, entry_there, changed_row, kept_items}
use Rattle.pa_machine.proofs.tables.Tables.issue_sealed.Goals as goal

pub count_word-requires : goal.count_word-requires
count_word-requires c = well_free c.args.self.now c.args.actor c.args.title c.requires.sound c.requires.enabled.1.0

pub issue_sealed_at-requires-clause-entry : goal.issue_sealed_at-requires-clause-entry
issue_sealed_at-requires-clause-entry c =
    let r = reads_free c.args.self.now c.args.actor c.args.title c.requires.sound
    (actor_is c.args.self.now c.args.actor c.requires.enabled.0) c.requires.enabled.1.0 in
    rw (c.first_word.ensures, c.deref_mut.ensures.value) (entry_there c.args.self.now c.args.title r.0 (λ _. Unit {0}) r.1 tt)

pub returns-clause-happens : goal.returns-clause-happens
returns-clause-happens c =
    let now = c.args.self.now in
    let after : Tables = record now {
      words = with_item now.words c.count_place.result c.next-after.result.0;
      slots = with_items now.slots c.issue_sealed_at.new.slots;
    } in
    let h = c.issue_sealed_at.ensures in
    let next = c.next-after.ensures ∙ ap (λ w. stepped Issue w) c.count_word.ensures in
    (sealed_row now after c.args.actor c.args.title h.0 h.1 c.requires.sound c.requires.enabled
    (changed_row now after (IsIssuedSlot true c.args.actor) c.deref_mut.result.now c.issue_sealed_at.new.slots c.first_word.result
    c.args.title c.deref_mut.ensures.value c.first_word.ensures
    (kept_items now.slots (IsIssuedSlot true c.args.actor) c.deref_mut.result.now c.issue_sealed_at.new.slots c.first_word.result
    c.deref_mut.ensures.value h) refl refl refl h)
    (rw (← next, ← c.count_place.ensures) refl) h.4).happens

pub returns-clause-sound : goal.returns-clause-sound
returns-clause-sound c =
    let now = c.args.self.now in
    let after : Tables = record now {
      words = with_item now.words c.count_place.result c.next-after.result.0;
      slots = with_items now.slots c.issue_sealed_at.new.slots;
    } in
    let h = c.issue_sealed_at.ensures in
    let next = c.next-after.ensures ∙ ap (λ w. stepped Issue w) c.count_word.ensures in
    (sealed_row now after c.args.actor c.args.title h.0 h.1 c.requires.sound c.requires.enabled
    (changed_row now after (IsIssuedSlot true c.args.actor) c.deref_mut.result.now c.issue_sealed_at.new.slots c.first_word.result
    c.args.title c.deref_mut.ensures.value c.first_word.ensures
    (kept_items now.slots (IsIssuedSlot true c.args.actor) c.deref_mut.result.now c.issue_sealed_at.new.slots c.first_word.result
    c.deref_mut.ensures.value h) refl refl refl h)
    (rw (← next, ← c.count_place.ensures) refl) h.4).sound
