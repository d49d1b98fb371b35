use Rattle.pa_audit_records.specs.ByKeys.{value_at}
use Rattle.pa_audit_records.proofs.Stepping.{reach_start, reach_more, reach_end, reach_kept, reach_first}
use Rattle.pa_audit_records.proofs.steps.reach.Goals as goal

pub loop-next-init : goal.loop-next-init
loop-next-init c =
    reach_start c.args.records.now (value_at c.args.reached.now) (value_at c.put.new.self) c.args.slot c.key_word.result 0
    c.key_word.ensures.sized.0 c.requires.reached c.requires.fresh c.key_word.ensures.key
    c.in_ok-put.ensures.puts

pub loop-next-preserved : goal.loop-next-preserved
loop-next-preserved c =
    reach_more c.args.records.now (value_at c.args.reached.now) (value_at c.loop-next.reached) (value_at c.put-in-Some.new.self)
    c.args.slot c.loop-next.word.0 c.in-Some.next.0 c.key_word-in-Some.result 0
    c.key_word-in-Some.ensures.sized c.in-Some.ensures.next c.key_word-in-Some.ensures.key c.in_ok-put-2.ensures.puts c.loop-next.invariant

pub returns : goal.returns
returns c =
    let before = value_at c.args.reached.now in
    let at = value_at c.loop-next.reached in
    record {
      reached = reach_end c.args.records.now before at c.args.slot c.loop-next.word.0 c.key_word.ensures.sized.0 c.in_default.ensures.last
          c.requires.reached c.loop-next.invariant;
      kept = reach_kept c.args.records.now before at c.args.slot c.loop-next.word.0 c.key_word.ensures.sized.0 c.loop-next.invariant;
      first = reach_first c.args.records.now before at c.args.slot c.loop-next.word.0 c.key_word.ensures.sized.0 c.loop-next.invariant;
    }
