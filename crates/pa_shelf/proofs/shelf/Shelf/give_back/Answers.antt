use Rattle.std.proofs.Common.{◌∙◌, Some, sym, subst, arith}
use Rattle.pa_record.specs.Spans.{name_of}
use Rattle.pa_record.specs.Root.{put_back}
use Rattle.pa_shelf.specs.Shelves.{ShowsRoot}
use Rattle.pa_shelf.proofs.Settling.{settle_some, settle_none, back_is, returned_is}
use Rattle.pa_shelf.proofs.Rewriting.{rewritten_on, of_records}
use Rattle.pa_shelf.proofs.shelf.Shelf.give_back.Goals as goal

pub decommit_oldest-requires-clause-shown : goal.decommit_oldest-requires-clause-shown
decommit_oldest-requires-clause-shown c =
    let (r, s, n, b) = c.requires.back in (put_back (name_of c.args.title) (Some s) r, c.put_back.ensures.shown r s n b)

pub decommit_oldest-requires-clause-turn : goal.decommit_oldest-requires-clause-turn
decommit_oldest-requires-clause-turn c =
    let (r, s, n, b) = c.requires.back in
    let now = (c.put_back.ensures.shown r s n b).kept.turn in let before = b.shown.kept.turn in
    let up = (back_is c.args.own.now.view c.args.self.now c.args.at c.args.title r s n b).turn in
    let low = c.requires.turn in
    omega arith

pub returns-in-Some-clause-shown : goal.returns-in-Some-clause-shown
returns-in-Some-clause-shown c r s n b =
    let v = c.args.own.now.view in let l = c.args.self.now in let t = c.args.title in
    let after = put_back (name_of t) (Some s) r in
    let w = c.put_back.new.own.view in let m = c.put_back.new.self in
    let shown = c.put_back.ensures.shown r s n b in
    let sound = (back_is v l c.args.at t r s n b).kept.sound in
    subst (ShowsRoot c.decommit_oldest.new.own.view c.decommit_oldest.new.self)
    (sym (returned_is v l c.args.at t r s n b ∙
    settle_some w m after c.in-Some.oldest shown.kept (sym c.put_back.ensures.oldest ∙ c.in-Some.is)))
    (c.decommit_oldest.ensures.shown after sound shown)

pub returns-in_default-clause-shown : goal.returns-in_default-clause-shown
returns-in_default-clause-shown c r s n b =
    let v = c.args.own.now.view in let l = c.args.self.now in let t = c.args.title in
    let after = put_back (name_of t) (Some s) r in
    let w = c.put_back.new.own.view in let m = c.put_back.new.self in
    let shown = c.put_back.ensures.shown r s n b in
    subst (ShowsRoot w m)
    (sym (returned_is v l c.args.at t r s n b ∙ settle_none w m after shown.kept (sym c.put_back.ensures.oldest ∙ c.in_default.is)))
    shown

pub returns-in-Some-clause-rest : goal.returns-in-Some-clause-rest
returns-in-Some-clause-rest c =
    let w = c.put_back.new.own.view in let x = c.decommit_oldest.new.own.view in
    rewritten_on c.args.own.now.view w x c.put_back.ensures.rest (of_records c.put_back.new.self.supers w x c.decommit_oldest.ensures.view)
