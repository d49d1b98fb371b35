use Rattle.std.proofs.Common.{ℕ, ◌<◌, List, true, set, length, sym, ◌∙◌, ap, subst, arith, inr}
use Rattle.pa_audit_records.specs.ByKeys.{value_at}
use Rattle.std.proofs.lemmas.List.{length_push}
use Rattle.std.proofs.lemmas.List.Elements.{Contains-push}
use Rattle.pa_rules.specs.Cells.{history_at}
use Rattle.pa_audit_order.specs.Cuts.{IsAheadAt, IsTakenUp, IsGrown, unmarked}
use Rattle.pa_audit_order.proofs.Cutting.{cut_but, cut_all, cut_steps, steps_in, cut_skip, cut_mark, in_skip, in_mark, in_more, marked_at, fewer_unmarked}
use Rattle.pa_audit_order.proofs.Meeting.{step_ahead, step_behind}
use Rattle.pa_audit_order.proofs.cuts.reach.Goals as goal

pub loop-next-init : goal.loop-next-init
loop-next-init c =
    let cells = history_at c.args.cells.now in
    let ps = c.args.records.now in
    let at = c.args.at in
    let A = IsAheadAt cells ps at in
    let cut = c.args.cut.now in
    let left = value_at cut.left in
    let marked = cut.marked.items in
    let old = cut.stack.items in
    let new = c.add_steps.new.stack.items in
    let high = c.add_steps.new.floor in
    let adds = c.in_ok-add_steps.ensures.adds in
    let h = cut_but cells ps A at marked old cut.floor left c.requires.cut in
    let near = steps_in cells ps A at marked old new cut.floor high left adds h in
    let there = cut_steps cells ps A at marked old new cut.floor high left
    (λ x y here step. step_ahead cells ps at x y c.requires.ready.rising here step) adds h in
    record { cut = cut_all cells ps A at marked new high left near there; near = near }

pub index-requires : goal.index-requires
index-requires c =
    let cells = history_at c.args.cells.now in
    let ps = c.args.records.now in
    let cut = c.loop-next.cut in
    let rest = c.pop.new.self.items in
    let P = λ (zs : List ℕ). IsGrown cells ps (IsAheadAt cells ps c.args.at) (length ps) cut.marked.items zs cut.floor
    (value_at cut.left) in
    let h = subst P c.in-Some.ensures.items c.loop-next.invariant.cut in
    let low = h.within c.in-Some.next (Contains-push rest c.in-Some.next) in
    let long = h.long in
    let same = cut.marked.ok.0 in
    omega (arith, low, long, same)

pub mark-requires-clause-at : goal.mark-requires-clause-at
mark-requires-clause-at c =
    let cells = history_at c.args.cells.now in
    let ps = c.args.records.now in
    let cut = c.loop-next.cut in
    let rest = c.pop.new.self.items in
    let P = λ (zs : List ℕ). IsGrown cells ps (IsAheadAt cells ps c.args.at) (length ps) cut.marked.items zs cut.floor
    (value_at cut.left) in
    let h = subst P c.in-Some.ensures.items c.loop-next.invariant.cut in
    h.within c.in-Some.next (Contains-push rest c.in-Some.next)

pub add_steps-requires-then-not-index-clause-at : goal.add_steps-requires-then-not-index-clause-at
add_steps-requires-then-not-index-clause-at c =
    let cells = history_at c.args.cells.now in
    let ps = c.args.records.now in
    let cut = c.loop-next.cut in
    let rest = c.pop.new.self.items in
    let P = λ (zs : List ℕ). IsGrown cells ps (IsAheadAt cells ps c.args.at) (length ps) cut.marked.items zs cut.floor
    (value_at cut.left) in
    let h = subst P c.in-Some.ensures.items c.loop-next.invariant.cut in
    h.within c.in-Some.next (Contains-push rest c.in-Some.next)

pub loop-next-preserved-in-Continue-branch-3 : goal.loop-next-preserved-in-Continue-branch-3
loop-next-preserved-in-Continue-branch-3 c =
    let cells = history_at c.args.cells.now in
    let ps = c.args.records.now in
    let n = length ps in
    let A = IsAheadAt cells ps c.args.at in
    let cut = c.loop-next.cut in
    let marked = cut.marked.items in
    let next = c.in-Some.next in
    let rest = c.pop.new.self.items in
    let left = value_at c.mark.new.left in
    let new = c.add_steps-then-not-index.new.stack.items in
    let high = c.add_steps-then-not-index.new.floor in
    let adds = c.in_ok-add_steps-2.ensures.adds in
    let items = c.in-Some.ensures.items in
    let h = subst (λ zs. IsGrown cells ps A n marked zs cut.floor (value_at cut.left)) items c.loop-next.invariant.cut in
    let within : next < length marked = let low = h.within next (Contains-push rest next) in let long = h.long in
    omega (arith, low, long) in
    let set_ = set marked next true in
    let made = cut_mark cells ps A next marked rest cut.floor (value_at cut.left) left c.in_ok-mark.ensures.left h in
    let steps = cut_steps cells ps A next set_ rest new cut.floor high left
    (λ x y here step. step_behind cells ps c.args.at next x y here step (h.ahead next y (inr (Contains-push rest next)) here))
    adds made in
    let near = steps_in cells ps A next set_ rest new cut.floor high left adds made in
    let all = cut_all cells ps A next set_ new high left near steps in
    let is = sym c.mark.ensures.marked in
    record {
      cut = subst (λ ms. IsGrown cells ps A n ms new high left) is all;
      near = λ j to.
          subst (λ ms. IsTakenUp ms new j) is
          (in_more set_ rest new j adds.kept
          (in_mark marked rest next j within (subst (λ zs. IsTakenUp marked zs j) items (c.loop-next.invariant.near j to))));
    }

pub loop-next-smaller-in-Continue-branch-3 : goal.loop-next-smaller-in-Continue-branch-3
loop-next-smaller-in-Continue-branch-3 c =
    let cells = history_at c.args.cells.now in
    let ps = c.args.records.now in
    let n = length ps in
    let A = IsAheadAt cells ps c.args.at in
    let cut = c.loop-next.cut in
    let marked = cut.marked.items in
    let next = c.in-Some.next in
    let rest = c.pop.new.self.items in
    let adds = c.in_ok-add_steps-2.ensures.adds in
    let items = c.in-Some.ensures.items in
    let h = subst (λ zs. IsGrown cells ps A n marked zs cut.floor (value_at cut.left)) items c.loop-next.invariant.cut in
    let within : next < length marked = let low = h.within next (Contains-push rest next) in let long = h.long in
    omega (arith, low, long) in
    let fewer = fewer_unmarked marked next c.index.result.now within (sym c.index.ensures ∙ c.if-not-index.true) in
    let is = ap unmarked c.mark.ensures.marked in
    let popped = ap length items in
    let push = length_push rest next in
    let few = adds.few in
    let most = adds.within in
    omega (arith, fewer, is, popped, push, few, most)

pub loop-next-preserved : goal.loop-next-preserved
loop-next-preserved c =
    let cells = history_at c.args.cells.now in
    let ps = c.args.records.now in
    let n = length ps in
    let A = IsAheadAt cells ps c.args.at in
    let cut = c.loop-next.cut in
    let marked = cut.marked.items in
    let next = c.in-Some.next in
    let rest = c.pop.new.self.items in
    let left = value_at cut.left in
    let items = c.in-Some.ensures.items in
    let h = subst (λ zs. IsGrown cells ps A n marked zs cut.floor left) items c.loop-next.invariant.cut in
    let within : next < length marked = let low = h.within next (Contains-push rest next) in let long = h.long in
    omega (arith, low, long) in
    let is = marked_at marked next c.index.result.now within (sym c.index.ensures ∙ c.if-not-index.false) in
    record {
      cut = cut_skip cells ps A n next marked rest cut.floor left is h;
      near = λ j to. in_skip marked rest next j is (subst (λ zs. IsTakenUp marked zs j) items (c.loop-next.invariant.near j to));
    }
