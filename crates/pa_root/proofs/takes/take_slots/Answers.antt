use Rattle.std.proofs.Common.{◌≡◌, ◌∙◌, ◌+◌, ◌-◌, suc, List, length, refl, sym, ap, subst, arith}
use Rattle.pa_slot.specs.declared.title.Title.{Title}
use Rattle.pa_root.specs.Taking.{IsOneTaken}
use Rattle.pa_root.proofs.SlotsTaken.{IsUnderWay, at_start, one_turn, next_able, none_left, all_taken, one_on}
use Rattle.pa_root.proofs.takes.take_slots.Goals as goal

pub loop-done-init : goal.loop-done-init
loop-done-init c = record {
  region = refl;
  turn = omega arith;
  many = let e = ap length c.new-titles.ensures in omega arith;
  way = λ r can.
      let all : c.args.want ≡ c.args.want - 0 = omega arith in
      subst (λ n. IsUnderWay c.args.class c.args.want n c.args.own.now.view c.args.own.now.view c.args.shelf.now r
      c.new-titles.result.items) all
      (subst (λ (ts : List Title). IsUnderWay c.args.class c.args.want c.args.want c.args.own.now.view c.args.own.now.view c.args.shelf.now
      r ts)
      (sym c.new-titles.ensures) (at_start c.args.class c.args.want c.args.own.now.view c.args.shelf.now r can));
}

pub take_one-requires-clause-able : goal.take_one-requires-clause-able
take_one-requires-clause-able c =
    let (r, can) = c.requires.able in
    let l = c.loop-done in let u = l.invariant.way r can in (
      u.now,
      next_able c.args.class c.args.want
          (c.args.want - l.done) c.args.own.now.view l.own.view c.args.shelf.now l.shelf r l.titles.items can c.number.ensures.bound u,
    )

pub returns-in_default-clause-taken : goal.returns-in_default-clause-taken
returns-in_default-clause-taken c r can =
    let l = c.loop-done in let u = l.invariant.way r can in let class = c.args.class in let left = c.args.want - l.done in
    let v = c.args.own.now.view in
    let able = next_able class c.args.want left v l.own.view c.args.shelf.now l.shelf r l.titles.items can c.number.ensures.bound u in
    let one = subst (IsOneTaken class u.now l.own.view c.take_one.new.own.view c.take_one.new.shelf) c.in_default.is
    (c.take_one.ensures.taken u.now able) in
    none_left class c.args.want left v l.own.view c.args.shelf.now l.shelf r l.titles.items can c.number.ensures.bound u
    c.take_one.new.own.view c.take_one.new.shelf one

pub returns-in_default-clause-turn : goal.returns-in_default-clause-turn
returns-in_default-clause-turn c =
    let (r, can) = c.requires.able in
    let l = c.loop-done in let u = l.invariant.way r can in let class = c.args.class in let left = c.args.want - l.done in
    let able = next_able class c.args.want left c.args.own.now.view l.own.view c.args.shelf.now l.shelf r l.titles.items can
    c.number.ensures.bound u in
    let up = one_turn class l.own.view c.take_one.new.own.view l.shelf c.take_one.new.shelf u.now c.take_one.result u.sound
    c.number.ensures.bound u.shown
    (c.take_one.ensures.taken u.now able) in
    let before = l.invariant.turn in
    omega arith

pub loop-done-preserved : goal.loop-done-preserved
loop-done-preserved c =
    let l = c.loop-done in let class = c.args.class in let left = c.args.want - l.done in
    let v = c.args.own.now.view in let items = l.titles.items in let t = c.in-Some.title in
    let next = l.done + 1 in
    let rest : c.args.want - l.done ≡ suc (c.args.want - next) = omega arith in
    record {
      region = c.take_one.ensures.region ∙ l.invariant.region;
      turn =
          let (r, can) = c.requires.able in let u = l.invariant.way r can in
          let able = next_able class c.args.want left v l.own.view c.args.shelf.now l.shelf r items can c.number.ensures.bound u in
          let up = one_turn class l.own.view c.take_one.new.own.view l.shelf c.take_one.new.shelf u.now c.take_one.result u.sound
          c.number.ensures.bound u.shown
          (c.take_one.ensures.taken u.now able) in
          let before = l.invariant.turn in
          omega arith;
      many = let e = c.push.ensures.len in let before = l.invariant.many in omega arith;
      way = λ r can.
          let had = l.invariant.way r can in
          let able = next_able class c.args.want left v l.own.view c.args.shelf.now l.shelf r items can c.number.ensures.bound had in
          let one = subst (IsOneTaken class had.now l.own.view c.take_one.new.own.view c.take_one.new.shelf) c.in-Some.is
          (c.take_one.ensures.taken had.now able) in
          one_on class c.args.want left
          (c.args.want - next) v l.own.view c.args.shelf.now l.shelf r items c.push.new.self.items can c.number.ensures.bound rest had
          c.take_one.new.own.view c.take_one.new.shelf t one c.push.ensures.items;
    }

pub returns-clause-taken : goal.returns-clause-taken
returns-clause-taken c r can =
    let l = c.loop-done in
    let none : c.args.want - l.done ≡ 0 = omega arith in
    all_taken c.args.class c.args.want c.args.own.now.view l.own.view l.shelf r l.titles.items
    (subst (λ n. IsUnderWay c.args.class c.args.want n c.args.own.now.view l.own.view l.shelf r l.titles.items) none
    (l.invariant.way r can))
