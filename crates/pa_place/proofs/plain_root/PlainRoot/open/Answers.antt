use Rattle.std.proofs.Common.{◌+◌, refl, sym, ◌∙◌, ap, subst, arith, vec_len}
use Rattle.pa_record.specs.Sound.{IsBornBelow}
use Rattle.pa_place.specs.Placed.{IsStep}
use Rattle.pa_place.specs.Roomy.{RoomyRoot}
use Rattle.pa_place.specs.Store.{root_of}
use Rattle.pa_place.proofs.Filing.{same_filed}
use Rattle.pa_place.proofs.Keeping.{good_of, kept_by, opened_step}
use Rattle.pa_place.proofs.Rooms.{rooms_opened}
use Rattle.pa_place.proofs.plain_root.PlainRoot.open.Goals as goal

pub open-requires : goal.open-requires
open-requires c =
    let room = ap (λ (z : RoomyRoot). z.room.super_page) c.self.view_is ∙ c.requires.room in
    record { room = (c.self.invariant.1.super_page room).room }

pub invariant_of-self : goal.invariant_of-self
invariant_of-self c =
    let s = c.self.inside.store in
    let e = ap (λ (z : RoomyRoot). z.root) c.self.view_is in
    let k = c.self.invariant.0 in
    let after = c.«open».new.self in
    let room = ap (λ (z : RoomyRoot). z.room.super_page) c.self.view_is ∙ c.requires.room in
    let a = opened_step c.args.first c.args.entry (root_of s) (root_of after) (good_of s k)
    (c.self.invariant.1.super_page room).few c.requires.low
    (subst (λ z. IsBornBelow c.args.entry z) (sym e) c.requires.born) c.«open».ensures.opened in
    let many = ap (λ v. vec_len v) c.«open».ensures.spans in
    let few = k.spans in (
      kept_by after (root_of after) refl a.good (omega arith)
          (same_filed s after (ap (λ v. v.items) c.«open».ensures.spans) c.«open».ensures.lists k.filed),
      rw c.opened-self-inside.ensures
          (rooms_opened s after c.self.inside.spare.items c.self.inside.room c.«open».ensures.spans c.«open».ensures.maps
          c.«open».ensures.lists c.self.invariant.1),
    )

pub returns-clause-step : goal.returns-clause-step
returns-clause-step c =
    let s = c.self.inside.store in
    let e = ap (λ (z : RoomyRoot). z.root) c.self.view_is in
    let k = c.self.invariant.0 in
    let after = c.«open».new.self in
    let room = ap (λ (z : RoomyRoot). z.room.super_page) c.self.view_is ∙ c.requires.room in
    let a = opened_step c.args.first c.args.entry (root_of s) (root_of after) (good_of s k)
    (c.self.invariant.1.super_page room).few c.requires.low
    (subst (λ z. IsBornBelow c.args.entry z) (sym e) c.requires.born) c.«open».ensures.opened in
    subst (λ z. IsStep c.args.entry (c.args.entry + 1) z (root_of after)) e a.step
