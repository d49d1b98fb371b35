use Rattle.std.proofs.Common.{drop, sym, ◌∙◌, arith, get_or}
use Rattle.std.proofs.lemmas.Option.{slice_get-get_or}
use Rattle.pa_slot.specs.declared.title.Title.{Title}
use Rattle.pa_place.specs.Store.{root_of}
use Rattle.pa_place.proofs.Giving.{IsLeftToGive, give_one, next_out}
use Rattle.pa_place.proofs.store.Store.give_all.Goals as goal

pub give-requires-clause-out : goal.give-requires-clause-out
give-requires-clause-out c =
    let ts = c.args.titles.now in
    let i = c.loop-title.title-index in
    let d : Title = record { start = 0; len = 0; born = 0 } in
    let here = slice_get-get_or ts i d c.loop-title-test.true in
    next_out (root_of c.loop-title.self) ts i (get_or ts i d) here c.loop-title.invariant.out

pub loop-title-preserved : goal.loop-title-preserved
loop-title-preserved c =
    let ts = c.args.titles.now in
    let i = c.loop-title.title-index in
    let d : Title = record { start = 0; len = 0; born = 0 } in
    let here = slice_get-get_or ts i d c.loop-title-test.true in
    let inv = c.loop-title.invariant in
    let h : IsLeftToGive (root_of c.loop-title.self) (drop i ts) = record { sound = inv.sound; out = inv.out; once = inv.once } in
    let a = give_one (root_of c.loop-title.self) (root_of c.give.new.self) ts i (get_or ts i d) here h c.give.ensures.returned in
    record {
      left = sym a.left ∙ inv.left;
      sound = a.rest.sound;
      ordered = c.give.ensures.ordered;
      filed = c.give.ensures.filed;
      settled = a.settled inv.settled;
      out = a.rest.out;
      once = a.rest.once;
      turn = let p = a.turn in let q = inv.turn in omega arith;
      many = c.give.ensures.many ∙ inv.many;
    }
