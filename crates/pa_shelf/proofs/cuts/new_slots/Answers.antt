use Rattle.std.proofs.Common.{◌∙◌, sym, arith}
use Rattle.std.proofs.lemmas.Bool.{ltb-true, ltb-false}
use Rattle.pa_shelf.proofs.Cutting.{made_inside, cut_listed, cut_more}
use Rattle.pa_shelf.proofs.Provisioning.{room_for}
use Rattle.pa_shelf.proofs.cuts.new_slots.Goals as goal

pub overflow_mul-start : goal.overflow_mul-start
overflow_mul-start c =
    let (v, l, r, s, b) = c.requires in
    let fits = made_inside v l c.args.span c.args.first r s b (omega arith) in
    omega arith

pub overflow_add-start : goal.overflow_add-start
overflow_add-start c =
    let (v, l, r, s, b) = c.requires in
    let fits = made_inside v l c.args.span c.args.first r s b (omega arith) in
    omega arith

pub returns-then-has_list : goal.returns-then-has_list
returns-then-has_list c v l r s b =
    cut_listed v l c.args.span c.args.first r s b (ltb-true _ _ (sym c.has_list.ensures ∙ c.if-has_list.true))

pub with_more-more-requires-clause-committed : goal.with_more-more-requires-clause-committed
with_more-more-requires-clause-committed c =
    let (v, l, r, s, b) = c.requires in
    (room_for v l c.args.span c.args.first r s b (ltb-false _ _ (sym c.has_list.ensures ∙ c.if-has_list.false)) (omega arith)).committed

pub with_more-more-requires-clause-more : goal.with_more-more-requires-clause-more
with_more-more-requires-clause-more c =
    let (v, l, r, s, b) = c.requires in
    (room_for v l c.args.span c.args.first r s b (ltb-false _ _ (sym c.has_list.ensures ∙ c.if-has_list.false)) (omega arith)).more

pub with_more-more-requires-clause-inside : goal.with_more-more-requires-clause-inside
with_more-more-requires-clause-inside c =
    let (v, l, r, s, b) = c.requires in
    let inside = (room_for v l c.args.span c.args.first r s b (ltb-false _ _ (sym c.has_list.ensures ∙ c.if-has_list.false))
    (omega arith)).inside in
    omega arith

pub returns : goal.returns
returns c v l r s b =
    cut_more v l c.args.span c.with_more-more.result c.args.first r s b (ltb-false _ _ (sym c.has_list.ensures ∙ c.if-has_list.false))
    c.with_more-more.ensures
