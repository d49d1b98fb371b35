use Rattle.std.proofs.Common.{◌/◌, refl, arith}
use Rattle.std.specs.Vec.{with_item, with_items}
use Rattle.pa_slot.specs.declared.title.OwnState.TheVariants.{Dirty}
use Rattle.pa_machine.specs.declared.tables.Tables.{Tables}
use Rattle.pa_machine.specs.Tables.{IsRestatedSlot}
use Rattle.pa_machine.proofs.Enabling.{over_entry}
use Rattle.pa_machine.proofs.Handing.{store_own_row, store_plain_row, store_inside}
use Rattle.pa_machine.proofs.Rows.{changed_row, kept_items, entry_there}
use Rattle.pa_machine.proofs.tables.Tables.store.Goals as goal

pub restate_at-requires-clause-entry : goal.restate_at-requires-clause-entry
restate_at-requires-clause-entry c =
    let f = c.in-Some.ensures.some in
    let e = over_entry c.args.self.now c.args.at f.0 c.requires.sound f.3 in
    rw (f.5, c.deref_mut.ensures.value) (entry_there c.args.self.now f.0.title f.0 (λ _. Unit {0}) e.0 tt)

pub returns-in-Some-clause-happens : goal.returns-in-Some-clause-happens
returns-in-Some-clause-happens c =
    let now = c.args.self.now in
    let after : Tables = record now {
      words = with_item now.words (c.args.at / 8) c.args.value;
      slots = with_items now.slots c.restate_at.new.slots;
    } in
    let h = c.restate_at.ensures in
    let f = c.in-Some.ensures.some in
    (store_own_row now after c.args.actor c.args.at c.args.value f.0 f.1 f.2 h.0 h.1 c.requires.sound c.requires.enabled f.3 f.4
    (changed_row now after (IsRestatedSlot c.args.actor Dirty) c.deref_mut.result.now c.restate_at.new.slots c.in-Some.place f.0.title
    c.deref_mut.ensures.value f.5
    (kept_items now.slots (IsRestatedSlot c.args.actor Dirty) c.deref_mut.result.now c.restate_at.new.slots c.in-Some.place
    c.deref_mut.ensures.value h) refl refl refl h)
    refl h.4).happens

pub returns-in-Some-clause-sound : goal.returns-in-Some-clause-sound
returns-in-Some-clause-sound c =
    let now = c.args.self.now in
    let after : Tables = record now {
      words = with_item now.words (c.args.at / 8) c.args.value;
      slots = with_items now.slots c.restate_at.new.slots;
    } in
    let h = c.restate_at.ensures in
    let f = c.in-Some.ensures.some in
    (store_own_row now after c.args.actor c.args.at c.args.value f.0 f.1 f.2 h.0 h.1 c.requires.sound c.requires.enabled f.3 f.4
    (changed_row now after (IsRestatedSlot c.args.actor Dirty) c.deref_mut.result.now c.restate_at.new.slots c.in-Some.place f.0.title
    c.deref_mut.ensures.value f.5
    (kept_items now.slots (IsRestatedSlot c.args.actor Dirty) c.deref_mut.result.now c.restate_at.new.slots c.in-Some.place
    c.deref_mut.ensures.value h) refl refl refl h)
    refl h.4).sound

pub index_mut-requires-2 : goal.index_mut-requires-2
index_mut-requires-2 c =
    let inside = store_inside c.args.self.now c.args.actor c.args.at c.args.value c.requires.sound c.requires.enabled in
    let len = c.args.self.now.words.ok.0 in
    omega arith

pub returns-clause-happens : goal.returns-clause-happens
returns-clause-happens c =
    let now = c.args.self.now in
    let after : Tables = record now { words = with_item now.words (c.args.at / 8) c.args.value } in
    (store_plain_row now after c.args.actor c.args.at c.args.value c.requires.sound c.requires.enabled c.in_default.ensures.none refl refl
    refl refl refl).happens

pub returns-clause-sound : goal.returns-clause-sound
returns-clause-sound c =
    let now = c.args.self.now in
    let after : Tables = record now { words = with_item now.words (c.args.at / 8) c.args.value } in
    (store_plain_row now after c.args.actor c.args.at c.args.value c.requires.sound c.requires.enabled c.in_default.ensures.none refl refl
    refl refl refl).sound
