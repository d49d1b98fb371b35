use Rattle.std.proofs.Common.{◌≡◌, ◌++◌, take}
use Rattle.std.specs.List.{flat_map}
use Rattle.std.specs.Io.{StartsWith}
use Rattle.pa_record.specs.Text.{report_text}
use Rattle.pa_record.proofs.report_lines.push_report.Given as goal

-- what was reported so far comes after what was there
abbrev pub invariant-loop-line : goal.invariant-loop-line
invariant-loop-line l = record {
  whole : l.out ≡ l.fn.out ++ flat_map report_text (take l.line-index l.report);
  kept : StartsWith l.out l.fn.out;
}
