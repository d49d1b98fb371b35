use Rattle.std.proofs.Common.{◌≡◌, ◌++◌, drop}
use Rattle.std.specs.Io.{StartsWith}
use Rattle.pa_record.specs.Text.{lines_from, history_text}
use Rattle.pa_record.proofs.cell_lines.push_cells.Given as goal

-- with the lines that are left the text is whole
abbrev pub invariant-loop-history : goal.invariant-loop-history
invariant-loop-history l = record {
  place : l.cell ≡ l.history-index;
  whole : l.out ++ lines_from history_text l.cell (drop l.cell l.cells) ≡ l.fn.out ++ lines_from history_text 0 l.cells;
  kept : StartsWith l.out l.fn.out;
}
