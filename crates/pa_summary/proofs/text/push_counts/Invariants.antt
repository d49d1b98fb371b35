use Rattle.std.proofs.Common.{◌≡◌, ◌+◌, ◌++◌, drop}
use Rattle.pa_record.specs.Text.{lines_from}
use Rattle.pa_summary.specs.SummaryText.{answer_line, answer_names}
use Rattle.pa_summary.proofs.text.push_counts.Given as goal

-- with the lines that are left the text is whole
abbrev pub invariant-loop-place : goal.invariant-loop-place
invariant-loop-place l = l.out ++ lines_from (answer_line l.entries) (l.place + 1) (drop l.place answer_names) ≡ l.fn.out ++
    lines_from (answer_line l.entries) 1 answer_names
