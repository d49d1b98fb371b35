use Rattle.std.proofs.Common.{◌<◌, refl, sym, ◌∙◌, ap, subst, arith, rules}
use Rattle.pa_record.specs.Root.{Root, Filled}
use Rattle.pa_place.specs.Made.{AreMadeNow, takes_cut}
use Rattle.pa_place.specs.Placed.{IsStep}
use Rattle.pa_place.specs.Roomy.{RoomyRoot, HasTakes}
use Rattle.pa_place.specs.Store.{root_of}
use Rattle.pa_place.proofs.Making.{cuts_made}
use Rattle.pa_place.proofs.Keeping.{in_place, good_of, kept_by, filled_step}
use Rattle.pa_place.proofs.Rooms.{no_rooms, given_room}
use Rattle.pa_place.proofs.plain_root.PlainRoot.take.Goals as goal

pub invariant_of-self : goal.invariant_of-self
invariant_of-self c =
    let s = c.self.inside.store in
    let e = ap (λ (z : RoomyRoot). z.root) c.self.view_is in
    let k = c.self.invariant.0 in
    let after = c.takes.new.self in
    let real : c.args.class < 170 = search rules in
    let b = filled_step c.args.class c.args.want (root_of s) (root_of after) c.takes.new.titles.items
    (good_of s k) real c.requires.few c.takes.ensures.filled c.takes.ensures.ordered in
    let takes = subst (λ room. HasTakes c.args.class c.args.want room)
    (sym (ap (λ (z : RoomyRoot). z.room) c.self.view_is)) c.requires.room in
    let room = (given_room s c.self.inside.spare.items c.self.inside.room c.args.class c.args.want c.requires.some takes
    c.self.invariant.1).room in
    let many = c.takes.ensures.many in
    let few = room.few in (
      kept_by after (root_of after) refl b.good (omega arith) c.takes.ensures.filed,
      rw c.none-self-inside.ensures (no_rooms after c.replace-blanks.new.dest.items),
    )

pub returns-clause-step : goal.returns-clause-step
returns-clause-step c = λ n.
    let s = c.self.inside.store in
    let e = ap (λ (z : RoomyRoot). z.root) c.self.view_is in
    let k = c.self.invariant.0 in
    let after = c.takes.new.self in
    let real : c.args.class < 170 = search rules in
    let b = filled_step c.args.class c.args.want (root_of s) (root_of after) c.takes.new.titles.items
    (good_of s k) real c.requires.few c.takes.ensures.filled c.takes.ensures.ordered in
    subst (λ z. IsStep n n z (root_of after)) e (in_place n (root_of s) (root_of after) b)

pub returns-clause-maps : goal.returns-clause-maps
returns-clause-maps c =
    let s = c.self.inside.store in
    let e = ap (λ (z : RoomyRoot). z.root) c.self.view_is in
    let k = c.self.invariant.0 in
    let after = c.takes.new.self in
    let real : c.args.class < 170 = search rules in
    let b = filled_step c.args.class c.args.want (root_of s) (root_of after) c.takes.new.titles.items
    (good_of s k) real c.requires.few c.takes.ensures.filled c.takes.ensures.ordered in
    b.maps ∙ ap (λ (z : Root). z.maps) e

pub returns-clause-made : goal.returns-clause-made
returns-clause-made c =
    let s = c.self.inside.store in
    let e = ap (λ (z : RoomyRoot). z.root) c.self.view_is in
    let k = c.self.invariant.0 in
    let after = c.takes.new.self in
    let real : c.args.class < 170 = search rules in
    let b = filled_step c.args.class c.args.want (root_of s) (root_of after) c.takes.new.titles.items
    (good_of s k) real c.requires.few c.takes.ensures.filled c.takes.ensures.ordered in
    let m = cuts_made c.args.class c.args.want (root_of s) k.ready real in
    let same = ap (λ (f : Filled). f.root) c.takes.ensures.filled in
    subst (λ z. AreMadeNow c.args.class z (root_of after) c.takes.new.made.items) e
    (subst (λ bs. AreMadeNow c.args.class (root_of s) (root_of after) bs) (sym c.takes.ensures.cut)
    (subst (λ z. AreMadeNow c.args.class (root_of s) z (takes_cut c.args.class c.args.want (root_of s))) same m))
