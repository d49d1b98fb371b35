use Rattle.std.proofs.Common.{◌≡◌, ◌+◌, length, ap, ◌∙◌, zero-add, sym}
use Rattle.pa_run_writer.specs.Lines.{OneJournal}
use Rattle.pa_run_writer.proofs.Growing.{from_more, none_more, none_count}
use Rattle.pa_run_writer.proofs.journals.Journals.new.Goals as goal

pub loop-partition-preserved : goal.loop-partition-preserved
loop-partition-preserved c =
    let js = c.loop-partition.of.items in
    let n = c.loop-partition.partition in
    let j = c.new.result in
    let count : length js ≡ n = none_count n js c.loop-partition.invariant.empty in
    let place : j.partition ≡ 0 + length js = ap (λ (z : OneJournal). z.partition) c.new.ensures.none ∙ sym count ∙
    sym (zero-add (length js)) in
    let more = c.in_ok-push.ensures.items in
    record {
      from = rw more (from_more 0 js j c.loop-partition.invariant.from place);
      empty = rw more (none_more n js j c.loop-partition.invariant.empty (ap (λ (z : OneJournal). z.entries) c.new.ensures.none));
    }
