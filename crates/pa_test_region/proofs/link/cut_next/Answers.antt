use Rattle.std.proofs.Common.{◌∙◌, ap, sym, subst, arith}
use Rattle.pa_region.specs.Cuts.{CanCut, after_cut}
use Rattle.pa_test_region.proofs.ChainRows.{row_more}
use Rattle.pa_test_region.proofs.link.cut_next.Goals as goal

pub cut-requires-clause-able : goal.cut-requires-clause-able
cut-requires-clause-able c =
    let v = c.args.seat.now.view in
    subst (λ t. CanCut t v) (sym c.slot.ensures) (c.requires.row.can c.args.count (omega arith) c.requires.few)

pub returns-clause-row : goal.returns-clause-row
returns-clause-row c =
    let v = c.args.seat.now.view in
    row_more c.a_cut_leaves_other_bytes.ensures c.args.born c.args.count v c.cut.new.seat.view c.requires.row c.requires.few
    (c.cut.ensures.view ∙ ap (λ t. after_cut t v) c.slot.ensures)
