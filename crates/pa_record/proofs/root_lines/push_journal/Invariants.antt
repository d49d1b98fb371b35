use Rattle.std.proofs.Common.{◌≡◌, ◌++◌, drop}
use Rattle.pa_record.specs.Text.{lines_from, root_text}
use Rattle.pa_record.proofs.root_lines.push_journal.Given as goal

-- with the lines that are left the text is whole
abbrev pub invariant-loop-entry : goal.invariant-loop-entry
invariant-loop-entry l = record {
  place : l.index ≡ l.entry-index;
  whole : l.out ++ lines_from (root_text l.partition) l.index (drop l.index l.entries) ≡ l.fn.out ++
      lines_from (root_text l.partition) 0 l.entries;
}
