use Rattle.std.proofs.Common.{◌≡◌, [], map, replicate}
use Rattle.pa_run_writer.specs.Lines.{AreFrom}
use Rattle.pa_run_writer.proofs.journals.Journals.new.Given as goal

-- that many journals have no entries, and are in order
abbrev pub invariant-loop-partition : goal.invariant-loop-partition
invariant-loop-partition l = record {
  from : AreFrom 0 l.of.items;
  empty : map (λ j. j.entries) l.of.items ≡ replicate l.partition [];
}
