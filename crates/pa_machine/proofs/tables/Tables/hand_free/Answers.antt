use Rattle.std.proofs.Common.{refl, Some}
use Rattle.std.specs.Vec.{with_items}
use Rattle.pa_machine.specs.declared.tables.Tables.{Tables}
use Rattle.pa_machine.specs.Tables.{IsNextSlot}
use Rattle.pa_machine.proofs.Enabling.{actor_is}
use Rattle.pa_machine.proofs.Reading.{reads_free}
use Rattle.pa_machine.proofs.Rows.{changed_row, kept_items, entry_there}
use Rattle.pa_machine.proofs.Handing.{hand_free_row}
use Rattle.pa_machine.proofs.tables.Tables.hand_free.Goals as goal

pub hand_free_at-requires-clause-entry : goal.hand_free_at-requires-clause-entry
hand_free_at-requires-clause-entry c =
    let r = reads_free c.args.self.now c.args.from c.args.title c.requires.sound
    (actor_is c.args.self.now c.args.from c.requires.enabled.0) c.requires.enabled.2 in
    rw (c.first_word.ensures, c.deref_mut.ensures.value) (entry_there c.args.self.now c.args.title r.0 (λ _. Unit {0}) r.1 tt)

pub returns-clause-happens : goal.returns-clause-happens
returns-clause-happens c =
    let now = c.args.self.now in
    let after : Tables = record now { slots = with_items now.slots c.hand_free_at.new.slots } in
    let h = c.hand_free_at.ensures in
    (hand_free_row now after c.args.from c.args.to c.args.title h.0 h.1 c.requires.sound c.requires.enabled
    (changed_row now after (λ o n. IsNextSlot o n (Some c.args.to) o.own o.refs.items) c.deref_mut.result.now c.hand_free_at.new.slots
    c.first_word.result c.args.title c.deref_mut.ensures.value c.first_word.ensures
    (kept_items now.slots (λ o n. IsNextSlot o n (Some c.args.to) o.own o.refs.items) c.deref_mut.result.now c.hand_free_at.new.slots
    c.first_word.result c.deref_mut.ensures.value h) refl refl refl h)
    refl h.4).happens

pub returns-clause-sound : goal.returns-clause-sound
returns-clause-sound c =
    let now = c.args.self.now in
    let after : Tables = record now { slots = with_items now.slots c.hand_free_at.new.slots } in
    let h = c.hand_free_at.ensures in
    (hand_free_row now after c.args.from c.args.to c.args.title h.0 h.1 c.requires.sound c.requires.enabled
    (changed_row now after (λ o n. IsNextSlot o n (Some c.args.to) o.own o.refs.items) c.deref_mut.result.now c.hand_free_at.new.slots
    c.first_word.result c.args.title c.deref_mut.ensures.value c.first_word.ensures
    (kept_items now.slots (λ o n. IsNextSlot o n (Some c.args.to) o.own o.refs.items) c.deref_mut.result.now c.hand_free_at.new.slots
    c.first_word.result c.deref_mut.ensures.value h) refl refl refl h)
    refl h.4).sound
