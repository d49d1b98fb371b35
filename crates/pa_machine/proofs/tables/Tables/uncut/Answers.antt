use Rattle.std.proofs.Common.{◌∙◌, ◌+◌, ℕ, refl, sym, ap, Some, None, subst, length, List}
use Rattle.std.specs.Vec.{with_item, with_items}
use Rattle.std.proofs.lemmas.List.{with_items_is}
use Rattle.pa_machine.specs.declared.tables.Tables.{Tables}
use Rattle.pa_machine.specs.Tables.{IsFilled}
use Rattle.std.proofs.Common.{Option}
use Rattle.pa_machine.proofs.Taking.{uncut_row}
use Rattle.pa_machine.proofs.tables.Tables.uncut.Goals as goal

pub returns-clause-happens : goal.returns-clause-happens
returns-clause-happens c =
    let now = c.args.self.now in
    let after : Tables = record now {
      holders = with_items now.holders c.give_bytes.new.holders;
      slots = with_item now.slots c.first_word.result None;
    } in
    let filled = c.give_bytes.ensures in
    let kept = with_items_is now.holders c.give_bytes.new.holders
    (filled.len ∙ (ap length c.deref_mut.ensures.value ∙ sym now.holders.ok.0)) in
    (uncut_row now after c.args.actor c.args.title c.requires.sound c.requires.enabled (record {
      words = refl;
      slots = rw c.first_word.ensures refl;
      homes = refl;
      actors = refl;
      holders = rw kept (subst (λ (b : List (Option ℕ)). IsFilled None b c.args.title.start (c.args.title.start + c.args.title.len)
          (Some c.args.actor) c.give_bytes.new.holders) c.deref_mut.ensures.value filled);
    })).happens

pub returns-clause-sound : goal.returns-clause-sound
returns-clause-sound c =
    let now = c.args.self.now in
    let after : Tables = record now {
      holders = with_items now.holders c.give_bytes.new.holders;
      slots = with_item now.slots c.first_word.result None;
    } in
    let filled = c.give_bytes.ensures in
    let kept = with_items_is now.holders c.give_bytes.new.holders
    (filled.len ∙ (ap length c.deref_mut.ensures.value ∙ sym now.holders.ok.0)) in
    (uncut_row now after c.args.actor c.args.title c.requires.sound c.requires.enabled (record {
      words = refl;
      slots = rw c.first_word.ensures refl;
      homes = refl;
      actors = refl;
      holders = rw kept (subst (λ (b : List (Option ℕ)). IsFilled None b c.args.title.start (c.args.title.start + c.args.title.len)
          (Some c.args.actor) c.give_bytes.new.holders) c.deref_mut.ensures.value filled);
    })).sound
