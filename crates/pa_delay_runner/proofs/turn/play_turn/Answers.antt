use Rattle.pa_delay_runner.proofs.Turned.{ready_heard, holds_heard, takes_turn}
use Rattle.pa_delay_runner.proofs.turn.play_turn.Goals as goal

pub play_delayed_op-requires-clause-ready : goal.play_delayed_op-requires-clause-ready
play_delayed_op-requires-clause-ready g c =
    ready_heard c.args.thread c.args.worker.now c.hear.new.worker c.args.seat.now.view c.hear.ensures.heard c.requires.thread.0
    c.requires.seat.1 c.requires.going.0 c.requires.going.2

pub play_delayed_op-requires-clause-waits : goal.play_delayed_op-requires-clause-waits
play_delayed_op-requires-clause-waits g c =
    holds_heard c.args.queue.now.slots c.args.worker.now c.hear.new.worker _ c.hear.ensures.heard c.hear.ensures.apart
    c.hear.ensures.made c.requires.waits

pub returns-clause-turn : goal.returns-clause-turn
returns-clause-turn g c =
    takes_turn c.settlings_end_turns.ensures c.args.thread c.args.due.line c.args.due.op c.in_ok-play_delayed_op.field-0
    c.args.worker.now c.hear.new.worker c.play_delayed_op.new.worker c.settle.new.self c.tell.new.worker
    c.args.queue.now c.play_delayed_op.new.queue c.args.seat.now.view c.hear.new.seat.view c.tell.new.seat.view (record {
      thread = c.requires.thread.0;
      heard = c.hear.ensures.heard;
      lists = c.hear.ensures.lists;
      apart = c.hear.ensures.apart;
      held = c.requires.waits;
      plays = c.in_ok-play_delayed_op.ensures.plays;
      keeps = c.in_ok-play_delayed_op.ensures.goes_on;
      holds = c.in_ok-play_delayed_op.ensures.waits;
      rest = c.play_delayed_op.ensures.rest;
      few = c.in_ok-play_delayed_op.ensures.few;
      kept = c.kept.ensures.worker;
      settled = c.settle.ensures.settled;
      stake = c.settle.ensures.stake;
      told = c.tell.ensures.told;
      none = c.tell.ensures.none;
      lent = c.hear.ensures.left;
      seat = c.tell.ensures.heard;
      aware = c.tell.ensures.aware;
    })
