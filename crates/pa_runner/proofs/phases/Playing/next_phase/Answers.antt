use Rattle.std.proofs.Common.{arith}
use Rattle.pa_runner.proofs.Passing.{passed_every}
use Rattle.pa_runner.proofs.PhaseSteps.{many_here, ready_here, main_here, few_here, main_then, none_then, going_next}
use Rattle.pa_runner.proofs.phases.Playing.next_phase.Goals as goal

pub pass_phase-requires-clause-many : goal.pass_phase-requires-clause-many
pass_phase-requires-clause-many g c κs within =
    let (i, going) = c.requires.going in
    many_here c.args.self.now.trace.now i c.args.phase c.args.workers.now c.args.queues.now c.args.seat.now.view c.args.report.now.items
    c.requires.limits going

pub pass_phase-requires-clause-ready : goal.pass_phase-requires-clause-ready
pass_phase-requires-clause-ready g c κs within =
    let (i, going) = c.requires.going in
    ready_here c.args.self.now.trace.now i c.args.phase c.args.workers.now c.args.queues.now c.args.seat.now.view c.args.report.now.items
    c.requires.limits going

pub pass_phase-requires-clause-main : goal.pass_phase-requires-clause-main
pass_phase-requires-clause-main g c κs within =
    let (i, going) = c.requires.going in
    main_here c.args.self.now.trace.now i c.args.phase c.args.workers.now c.args.queues.now c.args.seat.now.view c.args.report.now.items
    c.requires.limits going

pub pass_phase-requires-clause-few : goal.pass_phase-requires-clause-few
pass_phase-requires-clause-few g c κs within =
    let (i, going) = c.requires.going in
    few_here c.args.self.now.trace.now i c.args.phase c.args.workers.now c.args.queues.now c.args.seat.now.view c.args.report.now.items
    c.requires.limits going

pub hear_all-requires-clause-few : goal.hear_all-requires-clause-few
hear_all-requires-clause-few g c =
    let (i, going) = c.requires.going in
    let many = (many_here c.args.self.now.trace.now i c.args.phase c.args.workers.now c.args.queues.now c.args.seat.now.view
    c.args.report.now.items c.requires.limits going).1 in
    let count = c.pass_phase.ensures.count in
    omega arith

pub hear_all-requires-clause-main : goal.hear_all-requires-clause-main
hear_all-requires-clause-main g c =
    let (i, going) = c.requires.going in
    main_then c.args.self.now.trace.now i c.args.phase c.args.workers.now c.args.queues.now c.args.seat.now.view c.args.report.now.items
    c.requires.limits going
    c.pass_phase.new.workers c.pass_phase.new.seat.view c.in_ok-pass_phase.ensures.passed c.pass_phase.ensures.count

pub hear_all-requires-clause-every : goal.hear_all-requires-clause-every
hear_all-requires-clause-every g c =
    passed_every c.args.queues.now c.args.workers.now c.pass_phase.new.workers c.args.seat.now.view c.pass_phase.new.seat.view
    c.in_ok-pass_phase.ensures.passed

pub hear_all-requires-clause-none : goal.hear_all-requires-clause-none
hear_all-requires-clause-none g c =
    let (i, going) = c.requires.going in
    none_then c.args.self.now.trace.now i c.args.phase c.args.workers.now c.args.queues.now c.args.seat.now.view c.args.report.now.items
    c.requires.limits going
    c.pass_phase.new.workers c.pass_phase.new.seat.view c.in_ok-pass_phase.ensures.passed c.pass_phase.ensures.count

pub returns-clause-next : goal.returns-clause-next
returns-clause-next g c i begins going =
    let (told, said) = c.in_ok-pass_phase.ensures.reported in
    going_next c.args.self.now.trace.now i c.args.phase c.args.workers.now c.args.queues.now c.args.seat.now.view c.args.report.now.items
    c.requires.limits going
    c.pass_phase.new.workers c.pass_phase.new.seat.view c.in_ok-pass_phase.ensures.passed c.in_ok-pass_phase.ensures.aware told
    c.pass_phase.new.report.items said
    c.hear_all.new.workers c.clear_queues.new.queues c.hear_all.new.seat.view begins c.pass_phase.ensures.count c.hear_all.ensures.heard
    c.hear_all.ensures.count c.clear_queues.ensures
    c.hear_all.ensures.answered
