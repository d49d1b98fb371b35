use Rattle.std.proofs.Common.{◌-◌, arith}
use Rattle.pa_trace.proofs.Drawn.{drawn_more, drawn_all}
use Rattle.pa_trace.proofs.generator.draw.Goals as goal

pub loop-preserved : goal.loop-preserved
loop-preserved c =
    let now = c.loop.numbers in
    let next = c.next_word.new.self in
    drawn_more c.loop.words.items _ _ c.args.count c.loop.counter c.next_word.result
    (record { state = now.state; increment = now.increment })
    (record { state = next.state; increment = next.increment })
    (omega arith) c.loop.invariant c.next_word.ensures c.in_ok-push.ensures.items

pub returns : goal.returns
returns c =
    let now = c.loop.numbers in
    drawn_all c.loop.words.items _ (c.args.count - c.loop.counter) (record { state = now.state; increment = now.increment })
    (omega arith) c.loop.invariant
