use Rattle.std.proofs.Common.{◌≤◌, List, length, refl, sym, ◌∙◌, ap, subst, arith, rules}
use Rattle.pa_trace.specs.declared.script.Line.{Line}
use Rattle.pa_trace.specs.declared.script.Line.TheVariants.{Phase}
use Rattle.pa_delay_runner.proofs.HeadTurn.{steps_begin}
use Rattle.pa_delay_runner.proofs.LineSteps.{few_here, queued_here, steps_phase, steps_end}
use Rattle.pa_delay_runner.proofs.AsPlayed.{low_here, at_here, turn_ready, turn_played, played_as}
use Rattle.pa_delay_runner.proofs.lines.play_lines.Goals.{in-Phase+in_ok-report_phase-in-Phase, in-Do+in_ok-play_turn-in-Do}
use Rattle.pa_delay_runner.proofs.lines.play_lines.Goals as goal

pub loop-line-init : goal.loop-line-init
loop-line-init g c = record {
  region = c.tell_all.ensures.region ∙ sym c.requires.region;
  number_is = refl;
  small = omega arith;
  low = omega arith;
  going =
      steps_begin c.args.bytes c.args.trace.now c.args.workers.now c.tell_all.new.workers c.in_ok-queues.queues.items c.args.seat.now.view
      c.tell_all.new.seat.view c.new-report.result.items c.requires.new c.tell_all.ensures.count c.tell_all.ensures.heard
      c.tell_all.ensures.told c.aware.ensures.aware c.in_ok-queues.ensures.count c.in_ok-queues.ensures.each c.new-report.ensures.items;
}

pub report_phase-requires-clause-few : goal.report_phase-requires-clause-few
report_phase-requires-clause-few g c =
    few_here c.args.bytes c.args.trace.now c.loop-line.line-index c.loop-line.phase c.loop-line.workers c.loop-line.queues.items
    c.loop-line.seat.view c.loop-line.report.items c.requires.limits c.loop-line.invariant.going

pub report_phase-requires-clause-queued : goal.report_phase-requires-clause-queued
report_phase-requires-clause-queued g c =
    queued_here c.args.bytes c.args.trace.now c.loop-line.line-index c.loop-line.phase c.loop-line.workers c.deref.result.now
    c.loop-line.seat.view c.loop-line.report.items c.requires.limits
    (played_as c.loop-line.invariant.going refl refl c.deref.ensures.value refl refl)

pub play_turn-requires : goal.play_turn-requires
play_turn-requires g c =
    let ready = turn_ready c.args.bytes c.args.trace.now c.loop-line.line-index c.loop-line.phase c.loop-line.workers
    c.loop-line.queues.items c.loop-line.seat.view c.loop-line.report.items c.requires.limits c.loop-line.invariant.going
    c.as_slice-line-items.result.now Phase c.as_slice-line-items.ensures c.loop-line-test.true c.in-Do.thread c.in-Do.op c.in-Do.is
    c.index-workers-k.result c.index_mut.result.now c.index_mut.ensures.value in
    record {
      region = search rules;
      thread = ready.thread_is;
      seat = search rules;
      none = ready.none;
      going = ready.going;
      limits = ready.limits;
      room = ready.room;
      waits = ready.waits;
    }

pub loop-line-preserved : goal.loop-line-preserved
loop-line-preserved g c =
    let i = c.loop-line.line-index in
    let so = c.loop-line.invariant in
    let number = so.number_is in
    let small = so.small in
    let same = c.as_slice-line-items.ensures in
    let long = ap (λ (ls : List Line). length ls) same in
    let low = c.loop-line-test.true in
    elim c.match-line.branch [
      | in-Phase+in_ok-report_phase-in-Phase w ↦
          let phase = w.phase-is in
          let going = played_as so.going refl refl w.deref.ensures.value refl refl in
          record {
            region = ap (λ s. s.region) w.seat-is ∙ (w.report_phase.ensures.region ∙ sym c.requires.region);
            number_is = omega arith;
            small = omega arith;
            low = omega arith;
            going =
                played_as
                (steps_phase c.args.bytes c.args.trace.now i c.loop-line.phase c.loop-line.workers w.deref.result.now c.loop-line.seat.view
                c.loop-line.report.items c.requires.limits going
                (low_here c.args.bytes c.args.trace.now i c.loop-line.phase c.loop-line.workers w.deref.result.now c.loop-line.seat.view
                c.loop-line.report.items c.requires.limits going c.as_slice-line-items.result.now Phase same low)
                (at_here c.args.bytes c.args.trace.now i c.loop-line.phase c.loop-line.workers w.deref.result.now c.loop-line.seat.view
                c.loop-line.report.items c.requires.limits going c.as_slice-line-items.result.now Phase same low Phase w.in-Phase.is)
                w.report_phase.new.seat.view w.report_phase.new.report.items w.report_phase.ensures.asked w.aware-in-Phase.ensures.aware
                w.in_ok-report_phase-in-Phase.ensures.reported)
                w.phase-is w.workers-is (ap (λ v. v.items) w.queues-is ∙ sym w.deref.ensures.value) (ap (λ s. s.view) w.seat-is)
                (ap (λ v. v.items) w.report-is);
          }
      | in-Do+in_ok-play_turn-in-Do w ↦
          let phase = w.phase-is in
          record {
            region = ap (λ s. s.region) w.seat-is ∙ (w.play_turn.ensures.region ∙ sym c.requires.region);
            number_is = omega arith;
            small = omega arith;
            low = omega arith;
            going =
                played_as
                (turn_played c.args.bytes c.args.trace.now i c.loop-line.phase c.loop-line.workers c.loop-line.queues.items
                c.loop-line.seat.view c.loop-line.report.items c.requires.limits so.going c.as_slice-line-items.result.now Phase same low
                w.in-Do.thread w.in-Do.op w.in-Do.is c.loop-line.number w.index-workers-k.result w.play_turn.new.worker
                w.index_mut.result.now w.play_turn.new.queue w.play_turn.new.seat.view so.number_is w.index_mut.ensures.value
                w.in_ok-play_turn-in-Do.ensures.turn)
                w.phase-is w.workers-is (ap (λ v. v.items) w.queues-is) (ap (λ s. s.view) w.seat-is) (ap (λ v. v.items) w.report-is);
          }
    ]

pub returns-clause-played : goal.returns-clause-played
returns-clause-played g c =
    let so = c.loop-line.invariant in
    steps_end c.args.bytes c.args.trace.now c.loop-line.line-index c.loop-line.phase c.loop-line.workers c.deref-2.result.now
    c.loop-line.seat.view c.loop-line.report.items c.requires.limits (played_as so.going refl refl c.deref-2.ensures.value refl refl)
    (subst (λ (ls : List Line). length ls ≤ c.loop-line.line-index) c.as_slice-line-items.ensures c.loop-line-test.false)
    c.report_phase-2.new.seat.view c.report_phase-2.new.report.items c.report_phase-2.ensures.asked c.aware-2.ensures.aware
    c.in_ok-report_phase.ensures.reported so.low
