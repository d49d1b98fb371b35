use Rattle.std.specs.Prelude.{nat_eq, ◌<◌, length}
use Rattle.std.specs.HashMap.{get}
use Rattle.std.proofs.Common.{ap, ◌∙◌, arith}
use Rattle.std.proofs.lemmas.List.{get_or_default}
use Rattle.pa_record.specs.Spans.{name_of}
use Rattle.pa_player.specs.declared.table.Slot.{Slot}
use Rattle.pa_player.specs.Tables.{no_slot}
use Rattle.pa_player.proofs.Homes.{homed_set}
use Rattle.pa_player.proofs.table.Table.step.Goals as goal

pub invariant_of-self : goal.invariant_of-self
invariant_of-self c =
    let slots = c.self.inside.slots.items in
    let lt : c.args.place < length slots = grind (arith, c.requires.among, c.self.view_is) in
    let old = c.index_mut.result.now in
    homed_set slots (get nat_eq c.self.inside.homes) c.args.place _ lt
    (ap (λ (s : Slot). name_of s.title) (c.index_mut.ensures.value ∙ get_or_default slots c.args.place old no_slot lt)) c.self.invariant
