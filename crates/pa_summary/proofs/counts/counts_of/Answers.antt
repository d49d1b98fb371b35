use Rattle.std.proofs.Common.{◌∙◌}
use Rattle.std.proofs.lemmas.List.{length-set}
use Rattle.pa_summary.proofs.Counted.{counted_more, small_more}
use Rattle.pa_summary.proofs.counts.counts_of.Goals as goal

pub loop-entry-preserved : goal.loop-entry-preserved
loop-entry-preserved c =
    let l = c.loop-entry in
    let i = l.entry-index in
    let place = c.place_of.result in
    record {
      long = length-set l.counts place _ ∙ l.invariant.long;
      whole = counted_more c.args.entries.now i place _ l.counts l.invariant.long c.place_of.ensures.place c.loop-entry-test.true
          c.place_of.ensures.number l.invariant.whole;
      small = small_more l.counts i place l.invariant.long c.place_of.ensures.place l.invariant.small;
    }
