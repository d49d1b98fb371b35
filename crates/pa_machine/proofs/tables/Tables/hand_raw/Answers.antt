use Rattle.std.proofs.Common.{◌∙◌, ◌+◌, ℕ, refl, sym, ap, Some, None, subst, arith, length, List}
use Rattle.std.specs.Vec.{with_items}
use Rattle.std.proofs.lemmas.List.{with_items_is}
use Rattle.pa_machine.specs.declared.tables.Tables.{Tables}
use Rattle.pa_machine.specs.Tables.{IsFilled}
use Rattle.std.proofs.Common.{Option, ◌-◌}
use Rattle.pa_machine.proofs.Handing.{hand_raw_row}
use Rattle.pa_machine.proofs.Enabling.{raw_inside}
use Rattle.pa_machine.proofs.tables.Tables.hand_raw.Goals as goal

pub give_bytes-requires-clause-inside : goal.give_bytes-requires-clause-inside
give_bytes-requires-clause-inside c =
    let inside = raw_inside c.args.self.now c.args.from c.args.start c.args.len c.requires.sound c.if-len-gt0.true c.requires.enabled.2 in
    let holders = c.requires.sound.holders in
    let value = ap length c.deref_mut.ensures.value in
    omega arith

pub returns-then-len-gt0-clause-happens : goal.returns-then-len-gt0-clause-happens
returns-then-len-gt0-clause-happens c =
    let now = c.args.self.now in
    let after : Tables = record now { holders = with_items now.holders c.give_bytes.new.holders } in
    let filled = c.give_bytes.ensures in
    let kept = with_items_is now.holders c.give_bytes.new.holders
    (filled.len ∙ (ap length c.deref_mut.ensures.value ∙ sym now.holders.ok.0)) in
    (hand_raw_row now after c.args.from c.args.to c.args.start c.args.len c.requires.sound c.requires.enabled refl refl refl refl
    (rw kept (subst (λ (b : List (Option ℕ)). IsFilled None b c.args.start (c.args.start + c.args.len)
    (Some c.args.to) c.give_bytes.new.holders) c.deref_mut.ensures.value filled))).happens

pub returns-then-len-gt0-clause-sound : goal.returns-then-len-gt0-clause-sound
returns-then-len-gt0-clause-sound c =
    let now = c.args.self.now in
    let after : Tables = record now { holders = with_items now.holders c.give_bytes.new.holders } in
    let filled = c.give_bytes.ensures in
    let kept = with_items_is now.holders c.give_bytes.new.holders
    (filled.len ∙ (ap length c.deref_mut.ensures.value ∙ sym now.holders.ok.0)) in
    (hand_raw_row now after c.args.from c.args.to c.args.start c.args.len c.requires.sound c.requires.enabled refl refl refl refl
    (rw kept (subst (λ (b : List (Option ℕ)). IsFilled None b c.args.start (c.args.start + c.args.len)
    (Some c.args.to) c.give_bytes.new.holders) c.deref_mut.ensures.value filled))).sound
