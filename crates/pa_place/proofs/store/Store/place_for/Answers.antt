use Rattle.std.proofs.Common.{◌≡◌, ◌+◌, length, vec_len, arith, refl, sym, subst}
use Rattle.pa_record.specs.Root.{Root, new_span}
use Rattle.pa_place.specs.Order.{IsOrdered}
use Rattle.pa_place.specs.Store.{root_of}
use Rattle.pa_place.proofs.Ordering.{order_push}
use Rattle.pa_place.proofs.Filing.{filed_pushed}
use Rattle.pa_place.specs.Filed.{AreFiled, HasRoomToList}
use Rattle.pa_place.proofs.Placing.{is_room, current_in, listed_place, unlisted, new_place, blanks_popped}
use Rattle.pa_place.proofs.store.Store.place_for.Goals as goal

pub returns-then-is_some-clause-place : goal.returns-then-is_some-clause-place
returns-then-is_some-clause-place c =
    let same = c.listed-listed.ensures in
    listed_place c.args.class (root_of c.args.self.now) c.listed-listed.result same.listed same.within (sym c.if-is_some.ensures)

pub add_span-requires-clause-number : goal.add_span-requires-clause-number
add_span-requires-clause-number c =
    let r = root_of c.args.self.now in
    let room = is_room c.args.class r c.in_ok-at.at (sym c.in_ok-at.ensures) in
    c.requires.ready.low c.in_ok-at.at (current_in r c.in_ok-at.at room.now)

pub returns-clause-place : goal.returns-clause-place
returns-clause-place c =
    let r = root_of c.args.self.now in
    let same = c.listed-listed.ensures in
    let none = unlisted c.args.class r c.listed-listed.result same.listed (sym c.if-is_some.ensures) in
    let many = c.args.self.now.spans.ok in
    new_place c.args.class r (root_of c.add_span.new.self) c.in_ok-at.at c.len-place.result none
    (sym c.in_ok-at.ensures) c.add_span.ensures.after (let k = c.len-place.ensures in omega arith)

pub returns-clause-blanks : goal.returns-clause-blanks
returns-clause-blanks c =
    λ n h. blanks_popped c.args.class n c.args.blanks.now.items c.pop.new.self.items c.unwrap-span.result
    (rw c.unwrap-span.ensures at c.pop.ensures.items) h

pub returns-clause-ordered : goal.returns-clause-ordered
returns-clause-ordered c =
    let r = root_of c.args.self.now in
    let room = is_room c.args.class r c.in_ok-at.at (sym c.in_ok-at.ensures) in
    subst IsOrdered (sym c.add_span.ensures.after)
    (order_push c.args.class r c.in_ok-at.at c.requires.ready.sound c.requires.ordered room.now)

pub returns-clause-filed : goal.returns-clause-filed
returns-clause-filed c =
    let r = root_of c.args.self.now in
    let s = new_span c.args.class c.in_ok-at.at r.page in
    let many = c.args.self.now.spans.ok in
    let same : vec_len c.args.self.now.spans + 1 ≡ length r.spans + 1 = omega arith in
    let room = subst (λ n. HasRoomToList c.args.class n c.args.self.now.lists) same c.requires.lists in
    let new = filed_pushed r.spans s c.args.self.now.lists refl room c.requires.filed in
    subst (λ l. AreFiled c.add_span.new.self.spans.items l) (sym c.add_span.ensures.lists)
    (subst (λ (z : Root). AreFiled z.spans c.args.self.now.lists) (sym c.add_span.ensures.after) new)
