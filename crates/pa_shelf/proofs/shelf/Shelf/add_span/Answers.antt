use Rattle.std.proofs.Common.{◌∙◌, ◌+◌, ◌-◌, ◌*◌, length, Some, sym, subst, ap, arith}
use Rattle.std.specs.Prelude.{slice_get}
use Rattle.pa_record.specs.Root.{current}
use Rattle.pa_shelf.specs.Adding.{found_start, found_root}
use Rattle.pa_shelf.specs.Shelves.{ShowsRoot}
use Rattle.pa_shelf.proofs.Fresh.{here_room, room_some, found_some, found_none}
use Rattle.pa_shelf.proofs.Rewriting.{rewritten_none}
use Rattle.pa_shelf.proofs.shelf.Shelf.add_span.Goals as goal

pub room_for-requires : goal.room_for-requires
room_for-requires c a now =
    let (r, sound, shown) = c.requires.able in let k = shown.kept in
    let most = (sound.pages a (ap (λ zs. slice_get zs (length zs - 1)) k.supers ∙ now)).1 in let page = k.page in
    omega arith

pub start_span-requires-clause-able : goal.start_span-requires-clause-able
start_span-requires-clause-able c =
    let (r, sound, shown) = c.requires.able in
    let e = here_room c.args.own.now.view c.args.self.now r c.args.class c.room_for.result shown.kept c.room_for.ensures in
    let (now, room) = room_some c.args.class r.page (current r) c.in-Some.at (e ∙ c.in-Some.is) in
    (r, sound, shown, now, room)

pub returns-in-Some-clause-start : goal.returns-in-Some-clause-start
returns-in-Some-clause-start c r sound shown =
    let e = here_room c.args.own.now.view c.args.self.now r c.args.class c.room_for.result shown.kept c.room_for.ensures in
    let found = found_some c.args.class r (current r) c.in-Some.at (e ∙ c.in-Some.is) in
    let page = ap (λ n. 2097152 * c.in-Some.at.number + 16384 * n) (sym shown.kept.page) in
    ap Some (c.start_span.ensures.start ∙ page) ∙ sym (ap found_start found)

pub returns-in-Some-clause-shown : goal.returns-in-Some-clause-shown
returns-in-Some-clause-shown c r sound shown =
    let e = here_room c.args.own.now.view c.args.self.now r c.args.class c.room_for.result shown.kept c.room_for.ensures in
    let found = found_some c.args.class r (current r) c.in-Some.at (e ∙ c.in-Some.is) in
    let (now, room) = room_some c.args.class r.page (current r) c.in-Some.at (e ∙ c.in-Some.is) in
    subst (ShowsRoot c.start_span.new.own.view c.start_span.new.self) (sym (ap (λ o. found_root o r) found))
    (c.start_span.ensures.shown r sound shown now room)

pub returns-clause-start : goal.returns-clause-start
returns-clause-start c r sound shown =
    let e = here_room c.args.own.now.view c.args.self.now r c.args.class c.room_for.result shown.kept c.room_for.ensures in
    sym (ap found_start (found_none c.args.class r (current r) (e ∙ c.in_default.is)))

pub returns-clause-shown : goal.returns-clause-shown
returns-clause-shown c r sound shown =
    let e = here_room c.args.own.now.view c.args.self.now r c.args.class c.room_for.result shown.kept c.room_for.ensures in
    subst (ShowsRoot c.args.own.now.view c.args.self.now)
    (sym (ap (λ o. found_root o r) (found_none c.args.class r (current r) (e ∙ c.in_default.is)))) shown

pub returns-clause-rest : goal.returns-clause-rest
returns-clause-rest c = rewritten_none c.args.own.now.view
