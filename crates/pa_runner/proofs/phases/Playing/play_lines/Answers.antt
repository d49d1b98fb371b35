use Rattle.std.proofs.Common.{length, ◌∙◌}
use Rattle.pa_runner.proofs.PlayedLines.{plays_none, next_ready, next_limits, next_new, next_ok, same_thread, none_there, some_there, back_none, back_settled, back_stopped}
use Rattle.pa_runner.proofs.phases.Playing.play_lines.Goals as goal

pub loop-due-init : goal.loop-due-init
loop-due-init g c = record { can = c.requires.ready; played = plays_none c.args.worker.now c.args.lines.now c.requires.ready }

pub play_line-requires-clause-thread : goal.play_line-requires-clause-thread
play_line-requires-clause-thread g c κs within = same_thread c.loop-due.invariant.played ∙ c.requires.thread

pub play_line-requires-clause-ready : goal.play_line-requires-clause-ready
play_line-requires-clause-ready g c κs within =
    next_ready c.args.lines.now c.loop-due.due-index c.loop-due.worker c.loop-due-test.true c.loop-due.invariant.can

pub play_line-requires-clause-limits : goal.play_line-requires-clause-limits
play_line-requires-clause-limits g c κs within =
    next_limits c.args.lines.now c.loop-due.due-index _ c.loop-due.worker c.loop-due-test.true c.loop-due.invariant.can

pub play_line-requires-clause-new : goal.play_line-requires-clause-new
play_line-requires-clause-new g c κs within =
    next_new c.args.lines.now c.loop-due.due-index _ c.loop-due.worker c.loop-due-test.true c.loop-due.invariant.can

pub loop-due-preserved : goal.loop-due-preserved
loop-due-preserved g c =
    let both = next_ok c.args.lines.now c.loop-due.due-index _ c.args.worker.now c.loop-due.worker c.play_line.new.worker c.play_line.result
    c.in-Ok.field-0 c.in-Ok.is c.play_line.ensures.plays
    c.loop-due-test.true c.loop-due.invariant.can c.loop-due.invariant.played in
    record { can = both.0; played = both.1 }

pub returns-in-Err : goal.returns-in-Err
returns-in-Err g c =
    back_stopped c.args.lines.now c.loop-due.due-index _ c.args.worker.now c.loop-due.worker c.play_line.new.worker c.loop-due-test.true
    c.loop-due.invariant.played c.in-Err.ensures.stake
    c.in-Err.ensures.stops c.in-Err.ensures.settled c.in-Err.ensures.records c.in-Err.ensures.left

pub returns-then-is_empty : goal.returns-then-is_empty
returns-then-is_empty g c =
    back_none c.args.lines.now c.loop-due.due-index c.args.worker.now c.loop-due.worker c.loop-due-test.false
    (none_there (length c.args.lines.now) c.is_empty.result c.is_empty.ensures c.if-is_empty.true) c.loop-due.invariant.played
    c.requires.settled

pub returns : goal.returns
returns g c =
    back_settled c.settlings_end_phases.ensures c.args.lines.now c.loop-due.due-index c.args.worker.now c.loop-due.worker c.settle.new.self
    c.loop-due-test.false
    (some_there (length c.args.lines.now) c.is_empty.result c.is_empty.ensures c.if-is_empty.false) c.loop-due.invariant.played
    c.kept.ensures.worker
    c.settle.ensures.settled c.settle.ensures.stake
