use Rattle.std.proofs.Common.{inr, subst}
use Rattle.pa_place.specs.Out.{IsOutAs}
use Rattle.pa_audit_heap.proofs.Rooting.{slot_or_map}
use Rattle.pa_audit_heap.proofs.replay.Replay.map_out.Goals as goal

pub returns-in-Some-Slot-clause-none : goal.returns-in-Some-Slot-clause-none
returns-in-Some-Slot-clause-none c =
    let found = subst (IsOutAs c.args.self.now.root c.args.name) c.in-Some-Slot.field-0-is c.in-Some-Slot.ensures.some in
    λ t among same. slot_or_map c.args.self.now.root c.args.name t c.is_sound.ensures.sound found.0 among same

pub returns-in-None-clause-none : goal.returns-in-None-clause-none
returns-in-None-clause-none c = λ t among same. c.in-None.ensures.none t (inr among) same
