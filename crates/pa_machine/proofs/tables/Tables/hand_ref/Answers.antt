use Rattle.std.proofs.Common.{◌≡◌, ◌<◌, ℕ, refl, get_or, set, length}
use Rattle.std.specs.Vec.{with_items}
use Rattle.pa_machine.specs.declared.tables.Tables.{Tables}
use Rattle.pa_machine.specs.Tables.{IsNextSlot}
use Rattle.pa_machine.proofs.Enabling.{actor_is}
use Rattle.pa_machine.proofs.Reading.{reads_ref}
use Rattle.pa_machine.proofs.Rows.{changed_row, kept_items, entry_there}
use Rattle.std.proofs.Common.{Contains}
use Rattle.pa_machine.proofs.Handing.{hand_ref_row}
use Rattle.pa_machine.proofs.tables.Tables.hand_ref.Goals as goal

pub hand_ref_at-requires-clause-entry : goal.hand_ref_at-requires-clause-entry
hand_ref_at-requires-clause-entry c =
    let r = reads_ref c.args.self.now c.args.from c.args.title c.requires.sound
    (actor_is c.args.self.now c.args.from c.requires.enabled.0) c.requires.enabled.2 in
    rw (c.first_word.ensures, c.deref_mut.ensures.value)
    (entry_there c.args.self.now c.args.title r.0 (λ o. Contains o.refs.items c.args.from) r.1 r.3)

pub returns-clause-happens : goal.returns-clause-happens
returns-clause-happens c =
    let now = c.args.self.now in
    let after : Tables = record now { slots = with_items now.slots c.hand_ref_at.new.slots } in
    let h = c.hand_ref_at.ensures in
    (hand_ref_row now after c.args.from c.args.to c.args.title h.0 h.1 c.requires.sound c.requires.enabled
    (changed_row now after (λ o n. (k : ℕ) × (k < length o.refs.items) × (get_or o.refs.items k 0 ≡ c.args.from)
    × IsNextSlot o n o.free o.own (set o.refs.items k c.args.to)) c.deref_mut.result.now c.hand_ref_at.new.slots c.first_word.result
    c.args.title c.deref_mut.ensures.value c.first_word.ensures
    (kept_items now.slots (λ o n. (k : ℕ) × (k < length o.refs.items) × (get_or o.refs.items k 0 ≡ c.args.from)
    × IsNextSlot o n o.free o.own (set o.refs.items k c.args.to)) c.deref_mut.result.now c.hand_ref_at.new.slots c.first_word.result
    c.deref_mut.ensures.value h) refl refl refl h)
    refl h.4.0 h.4.1 h.4.2 h.4.3).happens

pub returns-clause-sound : goal.returns-clause-sound
returns-clause-sound c =
    let now = c.args.self.now in
    let after : Tables = record now { slots = with_items now.slots c.hand_ref_at.new.slots } in
    let h = c.hand_ref_at.ensures in
    (hand_ref_row now after c.args.from c.args.to c.args.title h.0 h.1 c.requires.sound c.requires.enabled
    (changed_row now after (λ o n. (k : ℕ) × (k < length o.refs.items) × (get_or o.refs.items k 0 ≡ c.args.from)
    × IsNextSlot o n o.free o.own (set o.refs.items k c.args.to)) c.deref_mut.result.now c.hand_ref_at.new.slots c.first_word.result
    c.args.title c.deref_mut.ensures.value c.first_word.ensures
    (kept_items now.slots (λ o n. (k : ℕ) × (k < length o.refs.items) × (get_or o.refs.items k 0 ≡ c.args.from)
    × IsNextSlot o n o.free o.own (set o.refs.items k c.args.to)) c.deref_mut.result.now c.hand_ref_at.new.slots c.first_word.result
    c.deref_mut.ensures.value h) refl refl refl h)
    refl h.4.0 h.4.1 h.4.2 h.4.3).sound
