use Rattle.std.proofs.Common.{◌∙◌, ◌-◌, sym, arith}
use Rattle.std.proofs.lemmas.Bool.{ltb-true, ltb-false}
use Rattle.pa_shelf.proofs.Taking.{ready_listed}
use Rattle.pa_shelf.proofs.Provisioning.{room_for, can_push, more_left, ready_pushed}
use Rattle.pa_shelf.proofs.takes.provided.Goals as goal

pub returns-then-has_list-clause-ready : goal.returns-then-has_list-clause-ready
returns-then-has_list-clause-ready c l r s b =
    ready_listed c.args.own.now.view l c.args.span c.args.first r s b (ltb-true _ _ (sym c.has_list.ensures ∙ c.if-has_list.true))

pub with_more-more-requires-clause-committed : goal.with_more-more-requires-clause-committed
with_more-more-requires-clause-committed c =
    let (l, r, s, b) = c.requires.able in
    (room_for c.args.own.now.view l c.args.span c.args.first r s b.slot (ltb-false _ _ (sym c.has_list.ensures ∙ c.if-has_list.false))
    (omega arith)).committed

pub with_more-more-requires-clause-more : goal.with_more-more-requires-clause-more
with_more-more-requires-clause-more c =
    let (l, r, s, b) = c.requires.able in
    (room_for c.args.own.now.view l c.args.span c.args.first r s b.slot (ltb-false _ _ (sym c.has_list.ensures ∙ c.if-has_list.false))
    (omega arith)).more

pub with_more-more-requires-clause-inside : goal.with_more-more-requires-clause-inside
with_more-more-requires-clause-inside c =
    let (l, r, s, b) = c.requires.able in
    let inside =
    (room_for c.args.own.now.view l c.args.span c.args.first r s b.slot (ltb-false _ _ (sym c.has_list.ensures ∙ c.if-has_list.false))
    (omega arith)).inside in
    omega arith

pub overflow_sub-count : goal.overflow_sub-count
overflow_sub-count c =
    let (l, r, s, b) = c.requires.able in
    let more = more_left c.args.own.now.view l c.args.span c.with_more-more.result c.args.first r s b
    (ltb-false _ _ (sym c.has_list.ensures ∙ c.if-has_list.false)) c.with_more-more.ensures in
    let e = c.from-from.ensures in let f = c.from.ensures in
    omega arith

pub push_all-requires-clause-able : goal.push_all-requires-clause-able
push_all-requires-clause-able c =
    let (l, r, s, b) = c.requires.able in
    let v = c.args.own.now.view in let x = c.args.span in let y = c.with_more-more.result in let t = c.args.first in
    let all = ltb-false _ _ (sym c.has_list.ensures ∙ c.if-has_list.false) in
    let more = more_left v l x y t r s b all c.with_more-more.ensures in
    let e = c.from-from.ensures in let f = c.from.ensures in
    (can_push v l x y t r s c.from-from.result (c.from.result - c.from-from.result) b all c.with_more-more.ensures (omega arith)
    (omega arith)
    (omega arith)).able

pub push_all-requires-clause-some : goal.push_all-requires-clause-some
push_all-requires-clause-some c =
    let (l, r, s, b) = c.requires.able in
    let v = c.args.own.now.view in let x = c.args.span in let y = c.with_more-more.result in let t = c.args.first in
    let all = ltb-false _ _ (sym c.has_list.ensures ∙ c.if-has_list.false) in
    let more = more_left v l x y t r s b all c.with_more-more.ensures in
    let e = c.from-from.ensures in let f = c.from.ensures in
    (can_push v l x y t r s c.from-from.result (c.from.result - c.from-from.result) b all c.with_more-more.ensures (omega arith)
    (omega arith)
    (omega arith)).some

pub push_all-requires-clause-inside : goal.push_all-requires-clause-inside
push_all-requires-clause-inside c =
    let (l, r, s, b) = c.requires.able in
    let v = c.args.own.now.view in let x = c.args.span in let y = c.with_more-more.result in let t = c.args.first in
    let all = ltb-false _ _ (sym c.has_list.ensures ∙ c.if-has_list.false) in
    let more = more_left v l x y t r s b all c.with_more-more.ensures in
    let e = c.from-from.ensures in let f = c.from.ensures in
    let inside = (can_push v l x y t r s c.from-from.result (c.from.result - c.from-from.result) b all c.with_more-more.ensures
    (omega arith) (omega arith)
    (omega arith)).inside in
    omega arith

pub returns-clause-ready : goal.returns-clause-ready
returns-clause-ready c l r s b =
    let v = c.args.own.now.view in let x = c.args.span in let y = c.with_more-more.result in let t = c.args.first in
    let all = ltb-false _ _ (sym c.has_list.ensures ∙ c.if-has_list.false) in
    let e = c.from-from.ensures in let f = c.from.ensures in
    ready_pushed v c.push_all.new.own.view l x y t r s c.from-from.result (c.from.result - c.from-from.result) b all c.aware.ensures.aware
    c.with_more-more.ensures c.push_all.ensures.relinked c.push_all.ensures.beside c.push_all.ensures.chain (omega arith) (omega arith)
