use Rattle.std.proofs.Common.{◌≡◌, List, length}
use Rattle.pa_record.specs.declared.entry.Entry.{Entry}
use Rattle.pa_runner.specs.Merging.{IsMergeOf}
use Rattle.pa_runner.proofs.MergedRecords.{IsMerging}
use Rattle.pa_runner.proofs.merging.merge_records.Given as goal

-- the records of the lines before were merged
abbrev pub invariant-loop-line : goal.invariant-loop-line
invariant-loop-line g l = record {
  long : length l.next ≡ 16;
  merging : (es : List Entry) → IsMergeOf l.lines l.workers es → IsMerging l.line-index l.lines l.next l.merged.items es;
}
