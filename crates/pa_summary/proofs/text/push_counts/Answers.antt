use Rattle.std.proofs.Common.{[], ap, ◌∙◌}
use Rattle.std.specs.Prelude.{slice_index_or}
use Rattle.pa_summary.specs.SummaryText.{answer_line, answer_names, count_line}
use Rattle.pa_summary.proofs.Counted.{lines_more}
use Rattle.pa_summary.proofs.text.push_counts.Goals as goal

pub loop-place-preserved : goal.loop-place-preserved
loop-place-preserved c =
    let l = c.loop-place in
    let es = c.args.entries.now in
    let count = slice_index_or c.counts_of-counts.result l.place 0 in
    lines_more (answer_line es) answer_names l.place l.out c.push_count.new.out
    (count_line c.name_at.result.now count) _ c.loop-place-test.true c.in_ok-push_count.ensures.pushed
    (ap (λ name. count_line name count) c.name_at.ensures ∙
    ap (count_line (slice_index_or answer_names l.place [])) (c.counts_of-counts.ensures l.place c.loop-place-test.true))
    l.invariant
