use Rattle.std.proofs.Common.{◌<◌, ◌^◌, ◌++◌, length, codes, ap, subst, ◌∙◌, arith}
use Rattle.std.specs.List.{AllByRecursion, flat_map}
use Rattle.pa_record.specs.Bits.{PoolInBits, CellInBits, ReportInBits}
use Rattle.pa_record.specs.Text.{roots_text, pools_text, cells_text, report_text}
use Rattle.pa_run_writer.proofs.Telling.{told_whole, grown}
use Rattle.pa_run_writer.proofs.whole.run_text.Goals as goal

pub returns : goal.returns
returns c =
    let out = c.into_text-out.result in
    let whole = c.into_vec.result in
    let small : length whole.items < 2 ^ 63 = omega (arith, whole.ok.0, whole.ok.1, whole.small) in
    let pool = c.args.pool in
    let cells = c.args.cells in
    let report = c.args.report in
    let text = grown out c.push_all.new.out c.push_pool.new.out c.push_cells.new.out c.push_report.new.out whole.items
    (roots_text c.args.journals) (pools_text pool.items) (cells_text cells.items) (flat_map report_text report.items) (codes "end\n")
    c.in_ok-push_all.ensures.pushed
    (c.in_ok-push_pool.ensures.pushed ∙ ap (λ z. c.push_all.new.out ++ pools_text z) c.deref-4.ensures.value)
    (c.in_ok-push_cells.ensures.pushed ∙ ap (λ z. c.push_pool.new.out ++ cells_text z) c.deref-5.ensures.value)
    (c.in_ok-push_report.ensures.pushed ∙ ap (λ z. c.push_cells.new.out ++ flat_map report_text z) c.deref-6.ensures.value)
    (c.into_vec.ensures.bytes ∙ c.in_ok-push_bytes.ensures.pushed) in
    record {
      text = told_whole whole.alloc c.args.records c.args.journals pool cells report out whole.items c.requires c.into_text-out.ensures.text
          small c.in_ok-push_all.ensures.few
          c.in_ok-push_all.ensures.fits (subst (AllByRecursion PoolInBits) c.deref.ensures.value c.pool_fits.ensures)
          (subst (AllByRecursion (AllByRecursion CellInBits)) c.deref-2.ensures.value c.histories_fit.ensures)
          (subst (AllByRecursion ReportInBits) c.deref-3.ensures.value c.report_fits.ensures) text;
    }
