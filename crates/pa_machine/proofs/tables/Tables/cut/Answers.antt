use Rattle.std.proofs.Common.{◌∙◌, ◌+◌, ◌/◌, ℕ, refl, sym, ap, Some, None, subst, arith, length, List}
use Rattle.std.specs.Vec.{with_item, with_items}
use Rattle.std.proofs.lemmas.List.{with_items_is}
use Rattle.pa_machine.specs.declared.slot.Slot.{Slot}
use Rattle.pa_machine.specs.declared.tables.Tables.{Tables}
use Rattle.pa_machine.specs.Tables.{IsFilled}
use Rattle.pa_machine.proofs.Enabling.{well_raw}
use Rattle.std.proofs.Common.{Option}
use Rattle.pa_machine.proofs.Taking.{cut_row, IsFreshSlot}
use Rattle.pa_machine.proofs.tables.Tables.cut.Goals as goal

pub index_mut-requires : goal.index_mut-requires
index_mut-requires c =
    let now = c.args.self.now in
    let can = c.requires.enabled in
    let well = well_raw now c.args.actor c.args.title c.requires.sound can.1 can.2 can.3 can.4 in
    let inside = well.inside in let long = well.long in let a = well.start_aligned in let b = well.len_aligned in
    let slots = c.requires.sound.slots in let holders = c.requires.sound.holders in let homes = c.requires.sound.homes in
    let first = c.first_word-first.ensures in let len = now.slots.ok.0 in
    omega arith

pub give_bytes-requires-clause-inside : goal.give_bytes-requires-clause-inside
give_bytes-requires-clause-inside c =
    let now = c.args.self.now in
    let can = c.requires.enabled in
    let well = well_raw now c.args.actor c.args.title c.requires.sound can.1 can.2 can.3 can.4 in
    let inside = well.inside in let long = well.long in let a = well.start_aligned in let b = well.len_aligned in
    let slots = c.requires.sound.slots in let holders = c.requires.sound.holders in let homes = c.requires.sound.homes in
    let value = ap length c.deref_mut.ensures.value in
    omega arith

pub point_words-requires-clause-inside : goal.point_words-requires-clause-inside
point_words-requires-clause-inside c =
    let now = c.args.self.now in
    let can = c.requires.enabled in
    let well = well_raw now c.args.actor c.args.title c.requires.sound can.1 can.2 can.3 can.4 in
    let inside = well.inside in let long = well.long in let a = well.start_aligned in let b = well.len_aligned in
    let slots = c.requires.sound.slots in let holders = c.requires.sound.holders in let homes = c.requires.sound.homes in
    let value = ap length c.deref_mut-2.ensures.value in let last = c.count_place.ensures in
    omega arith

pub returns-clause-ok : goal.returns-clause-ok
returns-clause-ok c =
    let now = c.args.self.now in
    let after : Tables = record now {
      holders = with_items now.holders c.give_bytes.new.holders;
      slots = with_item now.slots c.first_word-first.result (Some c.in_ok-entry.entry);
      homes = with_items now.homes c.point_words.new.homes;
    } in
    let filled = c.give_bytes.ensures in
    let pointed = c.point_words.ensures in
    let kept = with_items_is now.holders c.give_bytes.new.holders
    (filled.len ∙ (ap length c.deref_mut.ensures.value ∙ sym now.holders.ok.0)) in
    let kept_homes = with_items_is now.homes c.point_words.new.homes
    (pointed.len ∙ (ap length c.deref_mut-2.ensures.value ∙ sym now.homes.ok.0)) in
    let entry = c.in_ok-entry.ensures.ok in
    let made = c.cut_out.ensures in
    let first = c.first_word-first.ensures in
    let last = c.count_place.ensures in
    let on_homes = subst (λ (b : List ℕ). IsFilled 0 b c.first_word-first.result
    (c.count_place.result + 1) c.first_word-first.result c.point_words.new.homes) c.deref_mut-2.ensures.value pointed in
    let from_first = subst (λ (p : ℕ). IsFilled 0 now.homes.items p (c.count_place.result + 1) p c.point_words.new.homes) first on_homes in
    let at_places = subst (λ (q : ℕ). IsFilled 0 now.homes.items (c.args.title.start / 8) (q + 1)
    (c.args.title.start / 8) c.point_words.new.homes) last from_first in
    (cut_row now after c.args.actor c.args.title c.in_ok-entry.entry c.requires.sound c.requires.enabled (record {
      words = refl;
      slots = rw first refl;
      actors = refl;
      fresh = subst (λ (o : Slot). IsFreshSlot c.args.actor c.args.title o) (sym entry) (made.title, made.free, made.own, made.refs);
      holders = rw kept (subst
          (λ (b : List (Option ℕ)). IsFilled None b c.args.title.start
          (c.args.title.start + c.args.title.len) None c.give_bytes.new.holders) c.deref_mut.ensures.value filled);
      homes = rw kept_homes at_places;
    })).happens

pub returns-clause-sound : goal.returns-clause-sound
returns-clause-sound c =
    let now = c.args.self.now in
    let after : Tables = record now {
      holders = with_items now.holders c.give_bytes.new.holders;
      slots = with_item now.slots c.first_word-first.result (Some c.in_ok-entry.entry);
      homes = with_items now.homes c.point_words.new.homes;
    } in
    let filled = c.give_bytes.ensures in
    let pointed = c.point_words.ensures in
    let kept = with_items_is now.holders c.give_bytes.new.holders
    (filled.len ∙ (ap length c.deref_mut.ensures.value ∙ sym now.holders.ok.0)) in
    let kept_homes = with_items_is now.homes c.point_words.new.homes
    (pointed.len ∙ (ap length c.deref_mut-2.ensures.value ∙ sym now.homes.ok.0)) in
    let entry = c.in_ok-entry.ensures.ok in
    let made = c.cut_out.ensures in
    let first = c.first_word-first.ensures in
    let last = c.count_place.ensures in
    let on_homes = subst (λ (b : List ℕ). IsFilled 0 b c.first_word-first.result
    (c.count_place.result + 1) c.first_word-first.result c.point_words.new.homes) c.deref_mut-2.ensures.value pointed in
    let from_first = subst (λ (p : ℕ). IsFilled 0 now.homes.items p (c.count_place.result + 1) p c.point_words.new.homes) first on_homes in
    let at_places = subst (λ (q : ℕ). IsFilled 0 now.homes.items (c.args.title.start / 8) (q + 1)
    (c.args.title.start / 8) c.point_words.new.homes) last from_first in
    (cut_row now after c.args.actor c.args.title c.in_ok-entry.entry c.requires.sound c.requires.enabled (record {
      words = refl;
      slots = rw first refl;
      actors = refl;
      fresh = subst (λ (o : Slot). IsFreshSlot c.args.actor c.args.title o) (sym entry) (made.title, made.free, made.own, made.refs);
      holders = rw kept (subst
          (λ (b : List (Option ℕ)). IsFilled None b c.args.title.start
          (c.args.title.start + c.args.title.len) None c.give_bytes.new.holders) c.deref_mut.ensures.value filled);
      homes = rw kept_homes at_places;
    })).sound
