use Rattle.std.proofs.Common.{◌≡◌, ◌++◌, drop}
use Rattle.pa_record.specs.Text.{lines_from, journal_text}
use Rattle.pa_record.proofs.root_lines.push_roots.Given as goal

-- with the lines that are left the text is whole
abbrev pub invariant-loop-journal : goal.invariant-loop-journal
invariant-loop-journal l = record {
  place : l.partition ≡ l.journal-index;
  whole : l.out ++ lines_from journal_text l.partition (drop l.partition l.journals) ≡ l.fn.out ++ lines_from journal_text 0 l.journals;
}
