use Rattle.std.proofs.Common.{◌≡◌, ◌++◌, drop}
use Rattle.std.specs.Io.{StartsWith}
use Rattle.pa_record.specs.Text.{lines_from, cell_text}
use Rattle.pa_record.proofs.cell_lines.push_history.Given as goal

-- with the lines that are left the text is whole
abbrev pub invariant-loop-entry : goal.invariant-loop-entry
invariant-loop-entry l = record {
  place : l.index ≡ l.entry-index;
  whole : l.out ++ lines_from (cell_text l.cell) l.index (drop l.index l.entries) ≡ l.fn.out ++ lines_from (cell_text l.cell) 0 l.entries;
  kept : StartsWith l.out l.fn.out;
}
