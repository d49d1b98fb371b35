use Rattle.pa_summary.proofs.Summed.{summed}
use Rattle.pa_summary.proofs.text.write_summary.Goals as goal

pub returns : goal.returns
returns c =
    let ends = c.ends_of-ends.ensures in
    record {
      text =
          summed c.args.rounds c.args.key c.args.run.now c.deref.result.now c.deref-2.result.now c.new-out.result c.push_title.new.out
          c.push_counts.new.out
          c.push_sums.new.out c.push_sums-2.new.out c.into_vec.result.items _ _ _ _ c.new-out.ensures.empty
          c.in_ok-push_title.ensures.pushed c.deref.ensures.value
          c.in_ok-push_counts.ensures.pushed c.deref-2.ensures.value ends.live_slots ends.live_bytes ends.slots ends.bytes
          c.in_ok-push_sums.ensures.pushed
          c.in_ok-push_sums-2.ensures.pushed c.into_vec.ensures.bytes;
    }
