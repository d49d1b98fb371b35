use Rattle.std.proofs.Common.{◌≡◌, ◌++◌, drop}
use Rattle.std.specs.Io.{StartsWith}
use Rattle.pa_record.specs.Text.{lines_from, pool_text}
use Rattle.pa_record.proofs.pool_lines.push_pool.Given as goal

-- with the lines that are left the text is whole
abbrev pub invariant-loop-entry : goal.invariant-loop-entry
invariant-loop-entry l = record {
  place : l.index ≡ l.entry-index;
  whole : l.out ++ lines_from pool_text l.index (drop l.index l.entries) ≡ l.fn.out ++ lines_from pool_text 0 l.entries;
  kept : StartsWith l.out l.fn.out;
}
