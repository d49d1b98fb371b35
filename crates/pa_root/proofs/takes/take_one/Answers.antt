use Rattle.std.proofs.Common.{◌∙◌, sym, subst, arith}
use Rattle.pa_region.specs.Shares.{Share}
use Rattle.pa_shelf.specs.declared.cuts.NewSlots.{NewSlots}
use Rattle.pa_shelf.specs.Taking.{IsTakeAt}
use Rattle.pa_root.specs.Cutting.{titles_beside, NoneSeen}
use Rattle.pa_root.specs.Filling.{CanCutAll}
use Rattle.pa_root.proofs.OneTaken.{found_by, slot_there, new_can, can_take, one_taken, none_taken, found_turn, cut_view}
use Rattle.pa_root.proofs.takes.take_one.Goals as goal

pub span_for-requires-clause-able : goal.span_for-requires-clause-able
span_for-requires-clause-able c = let (r, can) = c.requires.able in (r, can.sound, can.shown)

pub to_cut-new-requires-clause-able : goal.to_cut-new-requires-clause-able
to_cut-new-requires-clause-able c =
    let (r, can) = c.requires.able in
    let v = c.args.own.now.view in let l = c.args.shelf.now in
    let w = c.span_for.new.own.view in let m = c.span_for.new.self in let at = c.in-Some.at in let class = c.args.class in
    let h = found_by class v l r w m at can c.number.ensures.bound c.span_for.ensures.rest
    (sym c.in-Some.is ∙ c.span_for.ensures.start r can.sound can.shown) (c.span_for.ensures.shown r can.sound can.shown) in
    (h.found.root, h.found.span, slot_there class v l r w m at h)

pub cut_beside-requires-clause-able : goal.cut_beside-requires-clause-able
cut_beside-requires-clause-able c =
    let (r, can) = c.requires.able in
    let v = c.args.own.now.view in let l = c.args.shelf.now in
    let w = c.span_for.new.own.view in let m = c.span_for.new.self in let at = c.in-Some.at in let class = c.args.class in
    let h = found_by class v l r w m at can c.number.ensures.bound c.span_for.ensures.rest
    (sym c.in-Some.is ∙ c.span_for.ensures.start r can.sound can.shown) (c.span_for.ensures.shown r can.sound can.shown) in
    let new = c.to_cut-new.result in
    let cut = c.to_cut-new.ensures.cut h.found.root h.found.span (slot_there class v l r w m at h) in
    subst (λ (x : Share). CanCutAll (titles_beside new.first 0 new.count) x.view) (sym c.to_cut-new.ensures.seat)
    (subst (λ (n : NewSlots). CanCutAll (titles_beside n.first 0 n.count) w) (sym cut) (new_can class v l r w m at h))

pub take_at-requires-clause-able : goal.take_at-requires-clause-able
take_at-requires-clause-able c =
    let (r, can) = c.requires.able in
    let v = c.args.own.now.view in let l = c.args.shelf.now in
    let w = c.span_for.new.own.view in let m = c.span_for.new.self in let at = c.in-Some.at in let class = c.args.class in
    let h = found_by class v l r w m at can c.number.ensures.bound c.span_for.ensures.rest
    (sym c.in-Some.is ∙ c.span_for.ensures.start r can.sound can.shown) (c.span_for.ensures.shown r can.sound can.shown) in
    let cut = c.to_cut-new.ensures.cut h.found.root h.found.span (slot_there class v l r w m at h) in
    let x_is = cut_view c.to_cut-new.result h.found.span c.to_cut-new.new.own c.span_for.new.own c.cut_beside.new.seat.view cut
    c.to_cut-new.ensures.seat
    c.cut_beside.ensures.view in (
      h.found.root,
      h.found.span,
      subst (λ x. IsTakeAt x m at h.found.root h.found.span) (sym x_is) (can_take class v l r w m at h c.aware.ensures.aware),
    )

pub take_at-requires-clause-turn : goal.take_at-requires-clause-turn
take_at-requires-clause-turn c =
    let (r, can) = c.requires.able in
    let v = c.args.own.now.view in let l = c.args.shelf.now in
    let w = c.span_for.new.own.view in let m = c.span_for.new.self in let at = c.in-Some.at in let class = c.args.class in
    let h = found_by class v l r w m at can c.number.ensures.bound c.span_for.ensures.rest
    (sym c.in-Some.is ∙ c.span_for.ensures.start r can.sound can.shown) (c.span_for.ensures.shown r can.sound can.shown) in
    let same = found_turn class v l r w m at h in
    let small = c.requires.turn in
    omega arith

pub returns-in-Some-clause-taken : goal.returns-in-Some-clause-taken
returns-in-Some-clause-taken c r can =
    let v = c.args.own.now.view in let l = c.args.shelf.now in
    let w = c.span_for.new.own.view in let m = c.span_for.new.self in let at = c.in-Some.at in let class = c.args.class in
    let h = found_by class v l r w m at can c.number.ensures.bound c.span_for.ensures.rest
    (sym c.in-Some.is ∙ c.span_for.ensures.start r can.sound can.shown) (c.span_for.ensures.shown r can.sound can.shown) in
    let cut = c.to_cut-new.ensures.cut h.found.root h.found.span (slot_there class v l r w m at h) in
    let x = c.cut_beside.new.seat.view in
    let x_is = cut_view c.to_cut-new.result h.found.span c.to_cut-new.new.own c.span_for.new.own x cut c.to_cut-new.ensures.seat
    c.cut_beside.ensures.view in
    let take = subst (λ y. IsTakeAt y m at h.found.root h.found.span) (sym x_is) (can_take class v l r w m at h c.aware.ensures.aware) in
    one_taken class v l r w m at h x c.take_at.new.own.view c.take_at.new.self c.take_at.result x_is
    (subst (λ (n : NewSlots). NoneSeen x (titles_beside n.first 0 n.count)) cut c.cut_beside.ensures.new) c.take_at.ensures.rest
    (c.take_at.ensures.title h.found.root h.found.span take) (c.take_at.ensures.shown h.found.root h.found.span take)

pub returns-clause-taken : goal.returns-clause-taken
returns-clause-taken c r can =
    none_taken c.args.class c.args.own.now.view c.span_for.new.own.view c.span_for.new.self r
    (sym c.in_default.is ∙ c.span_for.ensures.start r can.sound can.shown)
    (c.span_for.ensures.shown r can.sound can.shown) c.span_for.ensures.rest
