use Rattle.std.proofs.Common.{◌+◌, ℕ, refl, ap, subst, arith, length}
use Rattle.std.specs.Vec.{with_item, with_items}
use Rattle.pa_slot.specs.declared.title.OwnState.TheVariants.{Poisoned}
use Rattle.pa_machine.specs.declared.tables.Tables.{Tables}
use Rattle.pa_slot.specs.Titles.{poison}
use Rattle.pa_machine.specs.Tables.{IsRestatedSlot}
use Rattle.pa_machine.proofs.Enabling.{actor_is, well_own}
use Rattle.pa_machine.proofs.Reading.{reads_own}
use Rattle.pa_machine.proofs.Rows.{changed_row, kept_items, entry_there}
use Rattle.pa_machine.proofs.Handing.{poison_row}
use Rattle.pa_machine.proofs.tables.Tables.poison.Goals as goal

pub overflow_add-done : goal.overflow_add-done
overflow_add-done c =
    let now = c.args.self.now in
    let own = c.requires.enabled.1 in
    let r = reads_own now c.args.actor c.args.title own.0 c.requires.sound (actor_is now c.args.actor c.requires.enabled.0) own.1 in
    let done = c.progress_of-done.ensures r.0 _ r.1 r.4 in
    let well = well_own now c.args.actor c.args.title own.0 c.requires.sound own.1 in
    let inside = well.inside in let long = well.long in let a = well.start_aligned in let b = well.len_aligned in
    let room = own.2 in
    let slots = c.requires.sound.slots in
    omega arith

pub restate_at-requires-clause-inside : goal.restate_at-requires-clause-inside
restate_at-requires-clause-inside c =
    let now = c.args.self.now in
    let own = c.requires.enabled.1 in
    let r = reads_own now c.args.actor c.args.title own.0 c.requires.sound (actor_is now c.args.actor c.requires.enabled.0) own.1 in
    let done = c.progress_of-done.ensures r.0 _ r.1 r.4 in
    let well = well_own now c.args.actor c.args.title own.0 c.requires.sound own.1 in
    let inside = well.inside in let long = well.long in let a = well.start_aligned in let b = well.len_aligned in
    let room = own.2 in
    let slots = c.requires.sound.slots in
    let first = c.first_word.ensures in let value = ap length c.deref_mut.ensures.value in
    omega arith

pub restate_at-requires-clause-entry : goal.restate_at-requires-clause-entry
restate_at-requires-clause-entry c =
    let now = c.args.self.now in
    let own = c.requires.enabled.1 in
    let r = reads_own now c.args.actor c.args.title own.0 c.requires.sound (actor_is now c.args.actor c.requires.enabled.0) own.1 in
    let done = c.progress_of-done.ensures r.0 _ r.1 r.4 in
    let well = well_own now c.args.actor c.args.title own.0 c.requires.sound own.1 in
    let inside = well.inside in let long = well.long in let a = well.start_aligned in let b = well.len_aligned in
    let room = own.2 in
    let slots = c.requires.sound.slots in
    rw (c.first_word.ensures, c.deref_mut.ensures.value) (entry_there now c.args.title r.0 (λ _. Unit {0}) r.1 tt)

pub index_mut-requires : goal.index_mut-requires
index_mut-requires c =
    let now = c.args.self.now in
    let own = c.requires.enabled.1 in
    let r = reads_own now c.args.actor c.args.title own.0 c.requires.sound (actor_is now c.args.actor c.requires.enabled.0) own.1 in
    let done = c.progress_of-done.ensures r.0 _ r.1 r.4 in
    let well = well_own now c.args.actor c.args.title own.0 c.requires.sound own.1 in
    let inside = well.inside in let long = well.long in let a = well.start_aligned in let b = well.len_aligned in
    let room = own.2 in
    let slots = c.requires.sound.slots in
    let first = c.first_word-2.ensures in
    omega arith

pub returns-clause-happens : goal.returns-clause-happens
returns-clause-happens c =
    let now = c.args.self.now in
    let after : Tables = record now {
      words = with_item now.words (c.first_word-2.result + c.progress_of-done.result) poison;
      slots = with_items now.slots c.restate_at.new.slots;
    } in
    let h = c.restate_at.ensures in
    let own = c.requires.enabled.1 in
    let r = reads_own now c.args.actor c.args.title own.0 c.requires.sound (actor_is now c.args.actor c.requires.enabled.0) own.1 in
    let done = c.progress_of-done.ensures r.0 _ r.1 r.4 in
    (poison_row now after c.args.actor c.args.title own.0 h.0 h.1 c.requires.sound c.requires.enabled own.1
    (changed_row now after (IsRestatedSlot c.args.actor (Poisoned (c.progress_of-done.result + 1))) c.deref_mut.result.now
    c.restate_at.new.slots c.first_word.result c.args.title c.deref_mut.ensures.value c.first_word.ensures
    (kept_items now.slots (IsRestatedSlot c.args.actor (Poisoned (c.progress_of-done.result + 1))) c.deref_mut.result.now
    c.restate_at.new.slots c.first_word.result c.deref_mut.ensures.value h) refl refl refl h)
    (rw (c.first_word-2.ensures, done) refl)
    (subst (λ (d : ℕ). IsRestatedSlot c.args.actor (Poisoned (d + 1)) h.0.value h.1.value) done h.4)).happens

pub returns-clause-sound : goal.returns-clause-sound
returns-clause-sound c =
    let now = c.args.self.now in
    let after : Tables = record now {
      words = with_item now.words (c.first_word-2.result + c.progress_of-done.result) poison;
      slots = with_items now.slots c.restate_at.new.slots;
    } in
    let h = c.restate_at.ensures in
    let own = c.requires.enabled.1 in
    let r = reads_own now c.args.actor c.args.title own.0 c.requires.sound (actor_is now c.args.actor c.requires.enabled.0) own.1 in
    let done = c.progress_of-done.ensures r.0 _ r.1 r.4 in
    (poison_row now after c.args.actor c.args.title own.0 h.0 h.1 c.requires.sound c.requires.enabled own.1
    (changed_row now after (IsRestatedSlot c.args.actor (Poisoned (c.progress_of-done.result + 1))) c.deref_mut.result.now
    c.restate_at.new.slots c.first_word.result c.args.title c.deref_mut.ensures.value c.first_word.ensures
    (kept_items now.slots (IsRestatedSlot c.args.actor (Poisoned (c.progress_of-done.result + 1))) c.deref_mut.result.now
    c.restate_at.new.slots c.first_word.result c.deref_mut.ensures.value h) refl refl refl h)
    (rw (c.first_word-2.ensures, done) refl)
    (subst (λ (d : ℕ). IsRestatedSlot c.args.actor (Poisoned (d + 1)) h.0.value h.1.value) done h.4)).sound
