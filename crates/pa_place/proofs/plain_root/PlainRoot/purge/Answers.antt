use Rattle.std.proofs.Common.{refl, ◌∙◌, ap, subst, arith}
use Rattle.pa_record.specs.Root.{Root}
use Rattle.pa_place.specs.Placed.{IsStep}
use Rattle.pa_place.specs.Roomy.{RoomyRoot}
use Rattle.pa_place.specs.Store.{root_of}
use Rattle.pa_place.proofs.Keeping.{in_place, good_of, kept_by, purges}
use Rattle.pa_place.proofs.Rooms.{no_rooms}
use Rattle.pa_place.proofs.plain_root.PlainRoot.purge.Goals as goal

pub invariant_of-self : goal.invariant_of-self
invariant_of-self c =
    let s = c.self.inside.store in
    let e = ap (λ (z : RoomyRoot). z.root) c.self.view_is in
    let k = c.self.invariant.0 in
    let a = purges (root_of s) (root_of c.purge.new.self) (good_of s k) c.purge.ensures.purged c.purge.ensures.ordered in
    let many = c.purge.ensures.many in
    let few = k.spans in (
      kept_by c.purge.new.self (root_of c.purge.new.self) refl a.good (omega arith) c.purge.ensures.filed,
      rw c.none-self-inside.ensures (no_rooms c.purge.new.self c.self.inside.spare.items),
    )

pub returns-clause-step : goal.returns-clause-step
returns-clause-step c = λ n.
    let s = c.self.inside.store in
    let e = ap (λ (z : RoomyRoot). z.root) c.self.view_is in
    let k = c.self.invariant.0 in
    let a = purges (root_of s) (root_of c.purge.new.self) (good_of s k) c.purge.ensures.purged c.purge.ensures.ordered in
    subst (λ z. IsStep n n z (root_of c.purge.new.self)) e (in_place n (root_of s) (root_of c.purge.new.self) a)

pub returns-clause-maps : goal.returns-clause-maps
returns-clause-maps c =
    let s = c.self.inside.store in
    let e = ap (λ (z : RoomyRoot). z.root) c.self.view_is in
    let k = c.self.invariant.0 in
    let a = purges (root_of s) (root_of c.purge.new.self) (good_of s k) c.purge.ensures.purged c.purge.ensures.ordered in
    a.maps ∙ ap (λ (z : Root). z.maps) e
