use Rattle.pa_runner.proofs.PlayedLines.{plays_one, one_thread, one_last}
use Rattle.pa_runner.proofs.phases.Playing.play_line.Goals as goal

pub answered-requires-clause-thread : goal.answered-requires-clause-thread
answered-requires-clause-thread g c =
    one_thread c.args.due.line c.args.due.op c.in_ok-answer.answer c.args.worker.now c.play_op.new.worker c.args.thread
    c.in_ok-answer.ensures.plays c.requires.thread

pub answered-requires-clause-last : goal.answered-requires-clause-last
answered-requires-clause-last g c =
    one_last c.args.due.line c.args.due.op c.in_ok-answer.answer c.args.worker.now c.play_op.new.worker c.args.thread
    c.in_ok-answer.ensures.plays c.requires.thread

pub returns-clause-plays : goal.returns-clause-plays
returns-clause-plays g c =
    plays_one c.args.due c.in_ok-answer.answer c.args.worker.now c.play_op.new.worker c.in_ok-answer.ensures.plays
    c.in_ok-answer.ensures.goes_on
