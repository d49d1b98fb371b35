use Rattle.std.proofs.Common.{map, refl, sym, ◌∙◌, ap, subst, arith}
use Rattle.std.specs.Prelude.{All}
use Rattle.pa_record.specs.Spans.{name_of}
use Rattle.pa_record.specs.Root.{Root, IsOut}
use Rattle.pa_place.specs.Placed.{IsStep}
use Rattle.pa_place.specs.Roomy.{RoomyRoot}
use Rattle.pa_place.specs.Store.{root_of}
use Rattle.pa_place.proofs.Keeping.{in_place, good_of, kept_by, gives}
use Rattle.pa_place.proofs.Rooms.{no_rooms}
use Rattle.pa_place.proofs.plain_root.PlainRoot.give.Goals as goal

pub give_all-requires-clause-out : goal.give_all-requires-clause-out
give_all-requires-clause-out c =
    subst (λ r. All (IsOut r) (map name_of c.args.titles.now)) (sym (ap (λ (z : RoomyRoot). z.root) c.self.view_is)) c.requires.out

pub invariant_of-self : goal.invariant_of-self
invariant_of-self c =
    let s = c.self.inside.store in
    let e = ap (λ (z : RoomyRoot). z.root) c.self.view_is in
    let k = c.self.invariant.0 in
    let a = gives (root_of s) (root_of c.give_all.new.self) c.args.titles.now (good_of s k) c.requires.few
    (subst (λ r. All (IsOut r) (map name_of c.args.titles.now)) (sym e) c.requires.out) c.requires.once
    c.give_all.ensures.returned c.give_all.ensures.ordered in
    let many = c.give_all.ensures.many in
    let few = k.spans in (
      kept_by c.give_all.new.self (root_of c.give_all.new.self) refl a.good (omega arith) c.give_all.ensures.filed,
      rw c.none-self-inside.ensures (no_rooms c.give_all.new.self c.self.inside.spare.items),
    )

pub returns-clause-step : goal.returns-clause-step
returns-clause-step c = λ n.
    let s = c.self.inside.store in
    let e = ap (λ (z : RoomyRoot). z.root) c.self.view_is in
    let k = c.self.invariant.0 in
    let a = gives (root_of s) (root_of c.give_all.new.self) c.args.titles.now (good_of s k) c.requires.few
    (subst (λ r. All (IsOut r) (map name_of c.args.titles.now)) (sym e) c.requires.out) c.requires.once
    c.give_all.ensures.returned c.give_all.ensures.ordered in
    subst (λ z. IsStep n n z (root_of c.give_all.new.self)) e (in_place n (root_of s) (root_of c.give_all.new.self) a)

pub returns-clause-maps : goal.returns-clause-maps
returns-clause-maps c =
    let s = c.self.inside.store in
    let e = ap (λ (z : RoomyRoot). z.root) c.self.view_is in
    let k = c.self.invariant.0 in
    let a = gives (root_of s) (root_of c.give_all.new.self) c.args.titles.now (good_of s k) c.requires.few
    (subst (λ r. All (IsOut r) (map name_of c.args.titles.now)) (sym e) c.requires.out) c.requires.once
    c.give_all.ensures.returned c.give_all.ensures.ordered in
    a.maps ∙ ap (λ (z : Root). z.maps) e
