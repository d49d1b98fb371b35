use Rattle.std.proofs.Common.{◌≡◌, ◌++◌, drop, take, map}
use Rattle.std.specs.List.{AllByRecursion}
use Rattle.pa_record.specs.Bits.{RootInBits}
use Rattle.pa_record.specs.Text.{lines_from, journal_text}
use Rattle.pa_run_writer.proofs.journals.push_texts.Given as goal

-- with the lines that are left the text is whole
abbrev pub invariant-loop-lines : goal.invariant-loop-lines
invariant-loop-lines l = record {
  whole : l.out ++ lines_from journal_text l.lines-index (map (λ j. j.entries) (drop l.lines-index l.journals))
      ≡ l.fn.out ++ lines_from journal_text 0 (map (λ j. j.entries) l.journals);
  fits : AllByRecursion (AllByRecursion RootInBits) (map (λ j. j.entries) (take l.lines-index l.journals));
}
