use Rattle.std.proofs.Common.{◌+◌, refl, sym, ◌∙◌, ap, subst, arith}
use Rattle.pa_record.specs.Root.{Root}
use Rattle.pa_record.specs.Sound.{IsBornBelow}
use Rattle.pa_place.specs.Placed.{IsStep}
use Rattle.pa_place.specs.Roomy.{RoomyRoot}
use Rattle.pa_place.specs.Store.{root_of}
use Rattle.pa_place.proofs.Filing.{same_filed}
use Rattle.pa_place.proofs.Keeping.{good_of, kept_by, made_step}
use Rattle.pa_place.proofs.Rooms.{no_rooms}
use Rattle.pa_place.proofs.plain_root.PlainRoot.map.Goals as goal

pub map-requires-clause-room : goal.map-requires-clause-room
map-requires-clause-room c =
    let s = c.self.inside.store in
    let e = ap (λ (z : RoomyRoot). z.root) c.self.view_is in
    let k = c.self.invariant.0 in
    let room = ap (λ (z : RoomyRoot). z.room.map) c.self.view_is ∙ c.requires.room in
    (c.self.invariant.1.map room).room

pub invariant_of-self : goal.invariant_of-self
invariant_of-self c =
    let s = c.self.inside.store in
    let e = ap (λ (z : RoomyRoot). z.root) c.self.view_is in
    let k = c.self.invariant.0 in
    let after = c.map.new.self in
    let room = ap (λ (z : RoomyRoot). z.room.map) c.self.view_is ∙ c.requires.room in
    let a = made_step c.args.first c.args.slot c.args.entry c.map.result (root_of s) (root_of after) (good_of s k)
    (c.self.invariant.1.map room).few
    (subst (λ z. IsBornBelow c.args.entry z) (sym e) c.requires.born) c.map.ensures.title c.map.ensures.mapped in
    let many = c.map.ensures.many in
    let few = k.spans in
    let spans = ap (λ (r : Root). r.spans) c.map.ensures.mapped in (
      kept_by after (root_of after) refl a.good (omega arith) (same_filed s after spans c.map.ensures.lists k.filed),
      rw c.none-self-inside.ensures (no_rooms after c.self.inside.spare.items),
    )

pub returns-clause-step : goal.returns-clause-step
returns-clause-step c =
    let s = c.self.inside.store in
    let e = ap (λ (z : RoomyRoot). z.root) c.self.view_is in
    let k = c.self.invariant.0 in
    let after = c.map.new.self in
    let room = ap (λ (z : RoomyRoot). z.room.map) c.self.view_is ∙ c.requires.room in
    let a = made_step c.args.first c.args.slot c.args.entry c.map.result (root_of s) (root_of after) (good_of s k)
    (c.self.invariant.1.map room).few
    (subst (λ z. IsBornBelow c.args.entry z) (sym e) c.requires.born) c.map.ensures.title c.map.ensures.mapped in
    subst (λ z. IsStep c.args.entry (c.args.entry + 1) z (root_of after)) e a.step
