use Rattle.std.proofs.Common.{◌≡◌, ℕ, vec_len, List, ◌+◌, ◌-◌, suc, length, ◌++◌, sym, ◌∙◌, ap, subst, arith, Some}
use Rattle.std.proofs.lemmas.List.{length_push}
use Rattle.pa_record.specs.Spans.{Span}
use Rattle.pa_record.specs.Root.{takes}
use Rattle.pa_place.specs.Store.{root_of, HasBlanks}
use Rattle.std.proofs.lemmas.List.{append-nil}
use Rattle.pa_place.specs.Made.{takes_cut}
use Rattle.pa_place.proofs.Cutting.{cut_more, cut_none}
use Rattle.pa_place.proofs.Filing.{room_less}
use Rattle.pa_place.proofs.Filling.{with_taken, take_more, take_none, take_all, take_ready}
use Rattle.pa_place.proofs.store.Store.takes.Goals as goal

pub loop-taken-preserved : goal.loop-taken-preserved
loop-taken-preserved c =
    let inv = c.loop-taken.invariant in
    let class = c.args.class in
    let r = root_of c.loop-taken.self in
    let next = root_of c.take.new.self in
    let less = c.loop-taken-test.true in
    let k = c.args.want - (c.loop-taken._taken + 1) in
    let step : c.args.want - c.loop-taken._taken ≡ suc k = omega arith in
    let step' : c.args.want - c.loop-taken._taken ≡ k + 1 = omega arith in
    let titles = c.loop-taken.titles.items in
    let l_made = c.loop-taken.made.items in
    let took = c.in-Some.ensures.took in
    let a = take_ready class r next (Some c.in-Some.title) inv.ready c.requires.real took in
    record {
      filled = rw c.push.ensures.items (inv.filled ∙ ap (λ i. with_taken titles (takes class i r)) step ∙
          take_more class k r next titles c.in-Some.title took);
      cut = inv.cut ∙ ap (λ i. l_made ++ takes_cut class i r) step ∙ cut_more class k r next l_made c.in-Some.title took ∙
          ap (λ xs. xs ++ takes_cut class k next) (sym c.in-Some.ensures.cut);
      told = let p = c.take.ensures.more in let q = inv.told in omega arith;
      ready = a.ready;
      ordered = c.take.ensures.ordered;
      filed = c.take.ensures.filed;
      lists = c.take.ensures.lists (vec_len c.args.self.now.spans + c.args.want) inv.lists;
      some = let p = ap length c.push.ensures.items in let q = length_push titles c.in-Some.title in let s = inv.some in omega arith;
      few = omega arith;
      turn = let p = a.turn in let q = inv.turn in omega arith;
      blanks = c.take.ensures.blanks k (subst (λ i. HasBlanks class i c.loop-taken.blanks.items) step' inv.blanks);
      many = let p = c.take.ensures.many in let q = inv.many in omega arith;
      room = c.take.ensures.room ∙ inv.room;
    }

pub returns-in-None-clause-filled : goal.returns-in-None-clause-filled
returns-in-None-clause-filled c =
    let inv = c.loop-taken.invariant in
    let class = c.args.class in
    let r = root_of c.loop-taken.self in
    let less = c.loop-taken-test.true in
    let k = c.args.want - (c.loop-taken._taken + 1) in
    let step : c.args.want - c.loop-taken._taken ≡ suc k = omega arith in
    let titles = c.loop-taken.titles.items in
    inv.filled ∙ ap (λ i. with_taken titles (takes class i r)) step ∙
    take_none class k r (root_of c.take.new.self) titles c.in-None.ensures.took

pub returns-after-loop-taken-clause-filled : goal.returns-after-loop-taken-clause-filled
returns-after-loop-taken-clause-filled c =
    let inv = c.loop-taken.invariant in
    let class = c.args.class in
    let r = root_of c.loop-taken.self in
    let over = c.loop-taken-test.false in
    let none : c.args.want - c.loop-taken._taken ≡ 0 = omega arith in
    inv.filled ∙ ap (λ i. with_taken c.loop-taken.titles.items (takes class i r)) none ∙ take_all class r c.loop-taken.titles.items

-- some blank spans, or none
some_blanks : (class n : ℕ) (blanks : List Span) → HasBlanks class n blanks → HasBlanks class 0 blanks
some_blanks class n blanks h = record { many = omega arith; blank = h.blank }

pub returns-in-None-clause-blanks : goal.returns-in-None-clause-blanks
returns-in-None-clause-blanks c =
    let less = c.loop-taken-test.true in
    let k = c.args.want - (c.loop-taken._taken + 1) in
    let step : c.args.want - c.loop-taken._taken ≡ k + 1 = omega arith in
    some_blanks c.args.class k c.take.new.blanks.items
    (c.take.ensures.blanks k (subst (λ i. HasBlanks c.args.class i c.loop-taken.blanks.items) step c.loop-taken.invariant.blanks))

pub returns-after-loop-taken-clause-blanks : goal.returns-after-loop-taken-clause-blanks
returns-after-loop-taken-clause-blanks c =
    some_blanks c.args.class (c.args.want - c.loop-taken._taken) c.loop-taken.blanks.items c.loop-taken.invariant.blanks

pub take-requires-clause-lists : goal.take-requires-clause-lists
take-requires-clause-lists c =
    let inv = c.loop-taken.invariant in
    let less = c.loop-taken-test.true in
    let many = inv.many in
    room_less c.args.class (vec_len c.args.self.now.spans + c.args.want) (vec_len c.loop-taken.self.spans + 1) c.loop-taken.self.lists
    (omega arith) inv.lists

pub take-requires-clause-few : goal.take-requires-clause-few
take-requires-clause-few c =
    let less = c.loop-taken-test.true in
    let told = c.loop-taken.invariant.told in
    let few = c.requires.few in
    omega arith

pub returns-in-None-clause-cut : goal.returns-in-None-clause-cut
returns-in-None-clause-cut c =
    let inv = c.loop-taken.invariant in
    let class = c.args.class in
    let r = root_of c.loop-taken.self in
    let less = c.loop-taken-test.true in
    let k = c.args.want - (c.loop-taken._taken + 1) in
    let step : c.args.want - c.loop-taken._taken ≡ suc k = omega arith in
    let made = c.loop-taken.made.items in
    c.in-None.ensures.same ∙
    sym (inv.cut ∙ ap (λ i. made ++ takes_cut class i r) step ∙
    cut_none class k r (root_of c.take.new.self) made c.in-None.ensures.took)

pub returns-after-loop-taken-clause-cut : goal.returns-after-loop-taken-clause-cut
returns-after-loop-taken-clause-cut c =
    let inv = c.loop-taken.invariant in
    let over = c.loop-taken-test.false in
    let none : c.args.want - c.loop-taken._taken ≡ 0 = omega arith in
    sym (inv.cut ∙ ap (λ i. c.loop-taken.made.items ++ takes_cut c.args.class i (root_of c.loop-taken.self)) none ∙
    append-nil c.loop-taken.made.items)
