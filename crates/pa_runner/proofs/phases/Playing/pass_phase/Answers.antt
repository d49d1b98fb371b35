use Rattle.std.proofs.Common.{sym, ◌∙◌, length, subst, arith}
use Rattle.pa_slot.proofs.Outcomes.{any_err}
use Rattle.pa_execution.specs.Gathering.{IsMain}
use Rattle.pa_runner.specs.Phases.{worker_in}
use Rattle.pa_runner.specs.Reporting.{IsReported}
use Rattle.pa_runner.proofs.Reported.{report_none}
use Rattle.pa_runner.proofs.Passing.{returned_stakes, returned, returned_every, asked_back, passed, passed_asked, passed_few}
use Rattle.pa_runner.proofs.phases.Playing.pass_phase.Goals as goal

pub tell_all-requires-clause-main : goal.tell_all-requires-clause-main
tell_all-requires-clause-main g c = subst (λ n. IsMain n c.args.seat.now.view) (sym c.play_phase.ensures.count) c.requires.main

pub tell_all-requires-clause-stakes : goal.tell_all-requires-clause-stakes
tell_all-requires-clause-stakes g c =
    returned_stakes c.args.queues.now c.args.workers.now c.play_phase.new.workers c.requires.ready c.play_phase.ensures.count
    c.play_phase.ensures.played

pub returns-then-any_stopped-clause-returned : goal.returns-then-any_stopped-clause-returned
returns-then-any_stopped-clause-returned g c =
    let told = c.tell_all in
    returned c.args.queues.now c.args.workers.now c.play_phase.new.workers told.new.workers c.args.seat.now.view told.new.seat.view
    c.play_phase.ensures.count c.play_phase.ensures.played told.ensures.heard told.ensures.told

pub returns-then-any_stopped-clause-every : goal.returns-then-any_stopped-clause-every
returns-then-any_stopped-clause-every g c =
    let told = c.tell_all in
    let queues = c.args.queues.now in
    let before = c.args.workers.now in
    let first = c.args.seat.now.view in
    returned_every queues before told.new.workers first told.new.seat.view
    (returned queues before c.play_phase.new.workers told.new.workers first told.new.seat.view c.play_phase.ensures.count
    c.play_phase.ensures.played
    told.ensures.heard told.ensures.told)

pub report_phase-requires-clause-every : goal.report_phase-requires-clause-every
report_phase-requires-clause-every g c =
    let told = c.tell_all in
    let queues = c.args.queues.now in
    let before = c.args.workers.now in
    let first = c.args.seat.now.view in
    returned_every queues before told.new.workers first told.new.seat.view
    (returned queues before c.play_phase.new.workers told.new.workers first told.new.seat.view c.play_phase.ensures.count
    c.play_phase.ensures.played
    told.ensures.heard told.ensures.told)

pub report_phase-requires-clause-few : goal.report_phase-requires-clause-few
report_phase-requires-clause-few g c k low =
    let queues = c.args.queues.now in
    let before = c.args.workers.now in
    let first = c.args.seat.now.view in
    let told = c.tell_all in
    let back = returned queues before c.play_phase.new.workers told.new.workers first told.new.seat.view c.play_phase.ensures.count
    c.play_phase.ensures.played
    told.ensures.heard told.ensures.told in
    let count = told.ensures.count ∙ c.play_phase.ensures.count in
    let went = passed queues before told.new.workers first told.new.seat.view back count (c.any_stopped.ensures c.if-any_stopped.false) in
    passed_few queues before told.new.workers first told.new.seat.view went c.requires.ready c.requires.few k (omega arith)

pub returns-clause-passed : goal.returns-clause-passed
returns-clause-passed g c =
    let queues = c.args.queues.now in
    let before = c.args.workers.now in
    let first = c.args.seat.now.view in
    let told = c.tell_all in
    let back = returned queues before c.play_phase.new.workers told.new.workers first told.new.seat.view c.play_phase.ensures.count
    c.play_phase.ensures.played
    told.ensures.heard told.ensures.told in
    let count = told.ensures.count ∙ c.play_phase.ensures.count in
    let went = passed queues before told.new.workers first told.new.seat.view back count (c.any_stopped.ensures c.if-any_stopped.false) in
    passed_asked queues before told.new.workers first told.new.seat.view went c.report_phase.new.seat.view c.report_phase.ensures.asked

pub returns-clause-reported : goal.returns-clause-reported
returns-clause-reported g c =
    let told = c.tell_all in
    let asked = c.report_phase in (
      told.new.seat.view,
      subst (λ n. IsReported c.args.phase c.args.self.now.trace.now.partitions n
          (worker_in told.new.workers) told.new.seat.view asked.new.seat.view
          c.args.report.now.items asked.new.report.items)
          (told.ensures.count ∙ c.play_phase.ensures.count) c.in_ok-report_phase.ensures.reported,
    )

pub returns-in_err-report_phase-clause-returned : goal.returns-in_err-report_phase-clause-returned
returns-in_err-report_phase-clause-returned g c =
    let told = c.tell_all in
    (asked_back c.args.queues.now c.args.workers.now c.play_phase.new.workers told.new.workers c.args.seat.now.view told.new.seat.view
    c.report_phase.new.seat.view
    c.play_phase.ensures.count c.play_phase.ensures.played told.ensures.heard told.ensures.told c.report_phase.ensures.asked).0

pub returns-in_err-report_phase-clause-every : goal.returns-in_err-report_phase-clause-every
returns-in_err-report_phase-clause-every g c =
    let told = c.tell_all in
    (asked_back c.args.queues.now c.args.workers.now c.play_phase.new.workers told.new.workers c.args.seat.now.view told.new.seat.view
    c.report_phase.new.seat.view
    c.play_phase.ensures.count c.play_phase.ensures.played told.ensures.heard told.ensures.told c.report_phase.ensures.asked).1

pub returns-clause-returned : goal.returns-clause-returned
returns-clause-returned g c =
    let told = c.tell_all in
    (asked_back c.args.queues.now c.args.workers.now c.play_phase.new.workers told.new.workers c.args.seat.now.view told.new.seat.view
    c.report_phase.new.seat.view
    c.play_phase.ensures.count c.play_phase.ensures.played told.ensures.heard told.ensures.told c.report_phase.ensures.asked).0

pub returns-clause-every : goal.returns-clause-every
returns-clause-every g c =
    let told = c.tell_all in
    (asked_back c.args.queues.now c.args.workers.now c.play_phase.new.workers told.new.workers c.args.seat.now.view told.new.seat.view
    c.report_phase.new.seat.view
    c.play_phase.ensures.count c.play_phase.ensures.played told.ensures.heard told.ensures.told c.report_phase.ensures.asked).1

pub returns-then-any_stopped-clause-begun : goal.returns-then-any_stopped-clause-begun
returns-then-any_stopped-clause-begun g c =
    let told = c.tell_all.new in (
      told.seat.view,
      0,
      omega arith,
      report_none c.args.phase (length c.args.workers.now) (worker_in told.workers) told.seat.view c.args.report.now.items,
    )

pub returns-in_err-report_phase-clause-begun : goal.returns-in_err-report_phase-clause-begun
returns-in_err-report_phase-clause-begun g c =
    let told = c.tell_all in
    let asked = c.report_phase in
    let (partitions, few, begun) = c.in_err-report_phase.ensures.begun in any_err c.from_residual.result _ (
      told.new.seat.view,
      partitions,
      omega arith,
      subst (λ n. IsReported c.args.phase partitions n
          (worker_in told.new.workers) told.new.seat.view asked.new.seat.view c.args.report.now.items asked.new.report.items)
          (told.ensures.count ∙ c.play_phase.ensures.count) begun,
    )
