use Rattle.std.proofs.Common.{◌+◌, refl, ap, subst, arith}
use Rattle.pa_record.specs.Spans.{name_of}
use Rattle.pa_record.specs.Root.{Root}
use Rattle.pa_place.specs.Placed.{IsStep}
use Rattle.pa_place.specs.Roomy.{RoomyRoot}
use Rattle.pa_place.specs.Store.{root_of}
use Rattle.pa_place.proofs.Filing.{same_filed}
use Rattle.pa_place.proofs.Keeping.{good_of, kept_by, unmapped_step}
use Rattle.pa_place.proofs.Rooms.{no_rooms}
use Rattle.pa_place.proofs.plain_root.PlainRoot.unmap.Goals as goal

pub invariant_of-self : goal.invariant_of-self
invariant_of-self c =
    let s = c.self.inside.store in
    let e = ap (λ (z : RoomyRoot). z.root) c.self.view_is in
    let k = c.self.invariant.0 in
    let after = c.unmap.new.self in
    let a = unmapped_step (name_of c.args.title) (root_of s) (root_of after) (good_of s k) c.unmap.ensures.unmapped in
    let many = c.unmap.ensures.many in
    let few = k.spans in
    let spans = ap (λ (r : Root). r.spans) c.unmap.ensures.unmapped in (
      kept_by after (root_of after) refl a.good (omega arith) (same_filed s after spans c.unmap.ensures.lists k.filed),
      rw c.none-self-inside.ensures (no_rooms after c.self.inside.spare.items),
    )

pub returns-clause-step : goal.returns-clause-step
returns-clause-step c = λ n.
    let s = c.self.inside.store in
    let e = ap (λ (z : RoomyRoot). z.root) c.self.view_is in
    let k = c.self.invariant.0 in
    let a = unmapped_step (name_of c.args.title) (root_of s) (root_of c.unmap.new.self) (good_of s k) c.unmap.ensures.unmapped in
    subst (λ z. IsStep n (n + 1) z (root_of c.unmap.new.self)) e (a.step n)
