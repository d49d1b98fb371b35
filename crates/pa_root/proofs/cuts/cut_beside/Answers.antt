use Rattle.std.proofs.Common.{◌≡◌, ◌∙◌, sym, ap, subst, arith}
use Rattle.pa_region.specs.Views.{seen_of}
use Rattle.pa_region.specs.Cuts.{CanCut, after_cut}
use Rattle.pa_root.proofs.Rows.{next_can, next_view, next_new, next_place, all_new}
use Rattle.pa_root.proofs.cuts.cut_beside.Goals as goal

pub cut-requires-clause-able : goal.cut-requires-clause-able
cut-requires-clause-able c =
    let i = c.loop-done.invariant in
    subst (λ t. CanCut t c.loop-done.seat.view) (sym i.next)
    (next_can c.args.first c.args.count c.loop-done.done c.args.seat.now.view c.loop-done.seat.view
    (omega arith) c.requires.able i.view)

pub loop-done-preserved : goal.loop-done-preserved
loop-done-preserved c =
    let i = c.loop-done.invariant in
    let first = c.args.first in
    let n = c.loop-done.done in
    let cut = c.cut.ensures.view ∙ ap (λ t. after_cut t c.loop-done.seat.view) i.next in
    record {
      region = c.cut.ensures.region ∙ i.region;
      next = next_place first c.loop-done.next n i.next;
      view = next_view first n c.args.seat.now.view c.loop-done.seat.view c.cut.new.seat.view i.view cut;
      new =
          next_new first n c.args.seat.now.view c.loop-done.seat.view i.view i.new
          (subst (λ t. seen_of (after_cut t c.loop-done.seat.view) t ≡ 0) i.next
          (ap (λ v. seen_of v c.loop-done.next) (sym c.cut.ensures.view) ∙ c.cut.ensures.new));
    }

pub returns-clause-new : goal.returns-clause-new
returns-clause-new c =
    let i = c.loop-done.invariant in
    all_new c.args.first c.args.count c.loop-done.done c.args.seat.now.view c.loop-done.seat.view (omega arith) i.view i.new
