use Rattle.std.proofs.Common.{refl, ap, arith, length}
use Rattle.std.specs.Vec.{with_items}
use Rattle.pa_slot.specs.declared.title.OwnState.TheVariants.{Clean}
use Rattle.pa_machine.specs.declared.tables.Tables.{Tables}
use Rattle.pa_machine.specs.Tables.{IsRestatedSlot}
use Rattle.pa_machine.proofs.Enabling.{actor_is, well_own}
use Rattle.pa_machine.proofs.Reading.{reads_own}
use Rattle.pa_machine.proofs.Rows.{changed_row, kept_items, entry_there}
use Rattle.pa_machine.proofs.Handing.{hand_own_row}
use Rattle.pa_machine.proofs.tables.Tables.hand_own.Goals as goal

pub restate_at-requires-clause-inside : goal.restate_at-requires-clause-inside
restate_at-requires-clause-inside c =
    let well = well_own c.args.self.now c.args.from c.args.title Clean c.requires.sound c.requires.enabled.2 in
    let slots = c.requires.sound.slots in
    let inside = well.inside in let long = well.long in
    let first = c.first_word.ensures in let value = ap length c.deref_mut.ensures.value in
    omega arith

pub restate_at-requires-clause-entry : goal.restate_at-requires-clause-entry
restate_at-requires-clause-entry c =
    let r = reads_own c.args.self.now c.args.from c.args.title Clean c.requires.sound
    (actor_is c.args.self.now c.args.from c.requires.enabled.0) c.requires.enabled.2 in
    rw (c.first_word.ensures, c.deref_mut.ensures.value) (entry_there c.args.self.now c.args.title r.0 (λ _. Unit {0}) r.1 tt)

pub returns-clause-happens : goal.returns-clause-happens
returns-clause-happens c =
    let now = c.args.self.now in
    let after : Tables = record now { slots = with_items now.slots c.restate_at.new.slots } in
    let h = c.restate_at.ensures in
    (hand_own_row now after c.args.from c.args.to c.args.title h.0 h.1 c.requires.sound c.requires.enabled
    (changed_row now after (IsRestatedSlot c.args.to Clean) c.deref_mut.result.now c.restate_at.new.slots c.first_word.result c.args.title
    c.deref_mut.ensures.value c.first_word.ensures
    (kept_items now.slots (IsRestatedSlot c.args.to Clean) c.deref_mut.result.now c.restate_at.new.slots c.first_word.result
    c.deref_mut.ensures.value h) refl refl refl h)
    refl h.4).happens

pub returns-clause-sound : goal.returns-clause-sound
returns-clause-sound c =
    let now = c.args.self.now in
    let after : Tables = record now { slots = with_items now.slots c.restate_at.new.slots } in
    let h = c.restate_at.ensures in
    (hand_own_row now after c.args.from c.args.to c.args.title h.0 h.1 c.requires.sound c.requires.enabled
    (changed_row now after (IsRestatedSlot c.args.to Clean) c.deref_mut.result.now c.restate_at.new.slots c.first_word.result c.args.title
    c.deref_mut.ensures.value c.first_word.ensures
    (kept_items now.slots (IsRestatedSlot c.args.to Clean) c.deref_mut.result.now c.restate_at.new.slots c.first_word.result
    c.deref_mut.ensures.value h) refl refl refl h)
    refl h.4).sound
