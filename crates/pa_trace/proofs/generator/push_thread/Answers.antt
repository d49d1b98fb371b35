use Rattle.std.proofs.Common.{arith}
use Rattle.pa_trace.specs.Generated.{drawn_object}
use Rattle.pa_trace.proofs.Drawn.{behind_parts}
use Rattle.pa_trace.proofs.generator.push_thread.Goals as goal
use Rattle.pa_lists.proofs.Tests.{on_ok}

pub returns : goal.returns
returns c =
    on_ok c.push_pointers.result _ _ c.push_pointers.ensures
    (behind_parts (drawn_object c.args.words.now c.args.round c.args.thread) c.loop-object.object 4 c.args.lines.now.items
    c.loop-object.lines.items _ _ (omega arith) c.loop-object.invariant)
