use Rattle.std.proofs.Common.{subst}
use Rattle.pa_place.specs.Out.{IsOutAs}
use Rattle.pa_audit_heap.proofs.Rooting.{slot_or_map, slot_is_away}
use Rattle.pa_audit_heap.proofs.replay.Replay.slot_out.Goals as goal

pub returns-in-Some-Map-clause-none : goal.returns-in-Some-Map-clause-none
returns-in-Some-Map-clause-none c =
    let found = subst (IsOutAs c.args.self.now.root c.args.name) c.in-Some-Map.field-0-is c.in-Some-Map.ensures.some in
    λ out. slot_or_map c.args.self.now.root c.args.name c.in-Some-Map._map c.is_sound.ensures.sound out found.0 found.1

pub returns-in-None-clause-none : goal.returns-in-None-clause-none
returns-in-None-clause-none c = slot_is_away c.args.self.now.root c.args.name c.in-None.ensures.none
