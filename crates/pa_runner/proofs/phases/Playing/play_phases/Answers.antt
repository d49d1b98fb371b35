use Rattle.std.proofs.Common.{◌≤◌, List, [], length, replicate, refl, sym, ◌∙◌, ap, subst, arith, inl, inr}
use Rattle.pa_slot.proofs.Outcomes.{any_err}
use Rattle.std.proofs.lemmas.List.{with_items_is}
use Rattle.pa_trace.specs.declared.script.Line.{Line}
use Rattle.pa_runner.proofs.PhaseSteps.{going_start, going_as, begins_phase, line_there, line_pushed, many_here, ready_here, main_here, few_here, going_ends}
use Rattle.pa_runner.proofs.phases.Playing.play_phases.Goals.{in-Phase+in_ok-next_phase-in-Phase, in-Do+in_ok-push-in-Do}
use Rattle.pa_runner.proofs.phases.Playing.play_phases.Goals as goal

pub loop-line-init : goal.loop-line-init
loop-line-init g c = record {
  region = refl;
  number_is = refl;
  small = omega arith;
  going =
      going_start c.args.self.now.trace.now c.args.workers.now c.in_ok-queues.queues.items c.args.seat.now.view c.new-report.result.items
      c.requires.main c.requires.new c.in_ok-queues.ensures
      c.new-report.ensures.items;
}

pub next_phase-requires-clause-going : goal.next_phase-requires-clause-going
next_phase-requires-clause-going g c κs within =
    (c.loop-line.line-index, going_as c.loop-line.invariant.going refl refl c.deref_mut.ensures.value refl refl)

pub index_mut-requires : goal.index_mut-requires
index_mut-requires g c =
    let long = c.loop-line.queues.ok.0 in
    let there = line_there c.args.self.now.trace.now c.loop-line.line-index c.loop-line.phase c.loop-line.workers c.loop-line.queues.items
    c.loop-line.seat.view c.loop-line.report.items c.requires.limits
    c.loop-line.invariant.going c.as_slice-line-items.result.now _ c.in-Do.thread c.in-Do.op c.as_slice-line-items.ensures
    c.loop-line-test.true c.in-Do.is in
    omega arith

pub loop-line-preserved : goal.loop-line-preserved
loop-line-preserved g c =
    let i = c.loop-line.line-index in
    let so = c.loop-line.invariant in
    let number = so.number_is in
    let small = so.small in
    elim c.match-line.branch [
      | in-Phase+in_ok-next_phase-in-Phase w ↦
          let phase = w.phase-is in
          let all = with_items_is c.loop-line.queues w.next_phase.new.queues (w.next_phase.auto.queues ∙ w.deref_mut.ensures.len) in
          record {
            region = ap (λ s. s.region) w.seat-is ∙ (w.next_phase.ensures.region ∙ sym c.requires.region);
            number_is = omega arith;
            small = omega arith;
            going =
                going_as
                (w.in_ok-next_phase-in-Phase.ensures.next i
                (begins_phase c.as_slice-line-items.result.now c.args.self.now.trace.now.lines i _ c.as_slice-line-items.ensures
                c.loop-line-test.true w.in-Phase.is)
                (going_as so.going refl refl w.deref_mut.ensures.value refl refl))
                w.phase-is w.workers-is (ap (λ v. v.items) w.queues-is ∙ all) (ap (λ s. s.view) w.seat-is) (ap (λ v. v.items) w.report-is);
          }
      | in-Do+in_ok-push-in-Do w ↦
          let phase = w.phase-is in
          record {
            region = ap (λ s. s.region) w.seat-is ∙ so.region;
            number_is = omega arith;
            small = omega arith;
            going =
                going_as
                (line_pushed c.args.self.now.trace.now i c.loop-line.phase c.loop-line.workers c.loop-line.queues.items
                c.loop-line.seat.view c.loop-line.report.items c.requires.limits so.going
                c.as_slice-line-items.result.now _ w.in-Do.thread w.in-Do.op c.as_slice-line-items.ensures c.loop-line-test.true w.in-Do.is
                c.loop-line.number w.index_mut.result.now w.push.new.self so.number_is w.index_mut.ensures.value
                w.in_ok-push-in-Do.ensures.pushed)
                w.phase-is w.workers-is (ap (λ v. v.items) w.queues-is) (ap (λ s. s.view) w.seat-is) (ap (λ v. v.items) w.report-is);
          }
    ]

pub pass_phase-requires-clause-many : goal.pass_phase-requires-clause-many
pass_phase-requires-clause-many g c κs within =
    many_here c.args.self.now.trace.now c.loop-line.line-index c.loop-line.phase c.loop-line.workers c.loop-line.queues.items
    c.loop-line.seat.view c.loop-line.report.items c.requires.limits
    c.loop-line.invariant.going

pub pass_phase-requires-clause-ready : goal.pass_phase-requires-clause-ready
pass_phase-requires-clause-ready g c κs within =
    ready_here c.args.self.now.trace.now c.loop-line.line-index c.loop-line.phase c.loop-line.workers c.deref.result.now
    c.loop-line.seat.view c.loop-line.report.items c.requires.limits
    (going_as c.loop-line.invariant.going refl refl c.deref.ensures.value refl refl)

pub pass_phase-requires-clause-main : goal.pass_phase-requires-clause-main
pass_phase-requires-clause-main g c κs within =
    main_here c.args.self.now.trace.now c.loop-line.line-index c.loop-line.phase c.loop-line.workers c.loop-line.queues.items
    c.loop-line.seat.view c.loop-line.report.items c.requires.limits
    c.loop-line.invariant.going

pub pass_phase-requires-clause-few : goal.pass_phase-requires-clause-few
pass_phase-requires-clause-few g c κs within =
    few_here c.args.self.now.trace.now c.loop-line.line-index c.loop-line.phase c.loop-line.workers c.loop-line.queues.items
    c.loop-line.seat.view c.loop-line.report.items c.requires.limits
    c.loop-line.invariant.going

pub returns-clause-played : goal.returns-clause-played
returns-clause-played g c =
    let (told, said) = c.in_ok-pass_phase.ensures.reported in
    going_ends c.args.self.now.trace.now c.loop-line.line-index c.loop-line.phase c.loop-line.workers c.deref.result.now
    c.loop-line.seat.view c.loop-line.report.items c.requires.limits
    (going_as c.loop-line.invariant.going refl refl c.deref.ensures.value refl refl)
    c.pass_phase.new.workers c.pass_phase.new.seat.view c.in_ok-pass_phase.ensures.passed c.in_ok-pass_phase.ensures.aware told
    c.pass_phase.new.report.items said
    (subst (λ (ls : List Line). length ls ≤ c.loop-line.line-index) c.as_slice-line-items.ensures c.loop-line-test.false)
    c.pass_phase.ensures.count

pub returns-in_err-queues-clause-stops : goal.returns-in_err-queues-clause-stops
returns-in_err-queues-clause-stops g c =
    let t = c.args.self.now.trace.now in
    any_err c.from_residual.result _ (record {
      index = 0;
      phase = 1;
      before = c.args.workers.now;
      queues = replicate t.threads [];
      main = c.args.seat.now.view;
      report = [];
      going = going_start t c.args.workers.now (replicate t.threads []) c.args.seat.now.view [] c.requires.main c.requires.new refl refl;
      left = inl (refl, refl);
    })

pub returns-in_err-next_phase-in-Phase-clause-stops : goal.returns-in_err-next_phase-in-Phase-clause-stops
returns-in_err-next_phase-in-Phase-clause-stops g c =
    let so = c.loop-line.invariant.going in
    any_err c.from_residual-in_err-next_phase-in-Phase.result _ (record {
      index = c.loop-line.line-index;
      phase = c.loop-line.phase;
      before = c.loop-line.workers;
      queues = c.deref_mut.result.now;
      main = c.loop-line.seat.view;
      report = c.loop-line.report.items;
      going = going_as so refl refl c.deref_mut.ensures.value refl refl;
      left = inr (c.in_err-next_phase-in-Phase.ensures.returned, c.in_err-next_phase-in-Phase.ensures.every);
    })

pub returns-in_err-push-in-Do-clause-stops : goal.returns-in_err-push-in-Do-clause-stops
returns-in_err-push-in-Do-clause-stops g c = any_err c.from_residual-in_err-push-in-Do.result _ (record {
  index = c.loop-line.line-index;
  phase = c.loop-line.phase;
  before = c.loop-line.workers;
  queues = c.loop-line.queues.items;
  main = c.loop-line.seat.view;
  report = c.loop-line.report.items;
  going = c.loop-line.invariant.going;
  left = inl (refl, refl);
})

pub returns-in_err-pass_phase-clause-stops : goal.returns-in_err-pass_phase-clause-stops
returns-in_err-pass_phase-clause-stops g c =
    let so = c.loop-line.invariant.going in
    any_err c.from_residual-in_err-pass_phase.result _ (record {
      index = c.loop-line.line-index;
      phase = c.loop-line.phase;
      before = c.loop-line.workers;
      queues = c.deref.result.now;
      main = c.loop-line.seat.view;
      report = c.loop-line.report.items;
      going = going_as so refl refl c.deref.ensures.value refl refl;
      left = inr (c.pass_phase.ensures.returned, c.pass_phase.ensures.every);
    })
