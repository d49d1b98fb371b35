use Rattle.std.proofs.Common.{◌≡◌, ◌+◌, List, length, sym, ◌∙◌, ap, subst, arith}
use Rattle.pa_slot.proofs.Outcomes.{any_err}
use Rattle.pa_record.specs.declared.report.ReportLine.{ReportLine}
use Rattle.pa_region.specs.declared.view.View.{View}
use Rattle.pa_region.specs.Shares.{Share}
use Rattle.pa_runner.specs.Phases.{worker_in}
use Rattle.pa_runner.specs.Reporting.{HasAsked, IsBalance, IsReported}
use Rattle.pa_runner.proofs.Reported.{asked_every, asked_more, report_asked, report_more}
use Rattle.pa_runner.proofs.phases.Playing.report_phase.Goals as goal

pub loop-partition-preserved : goal.loop-partition-preserved
loop-partition-preserved g c =
    let below = c.loop-partition-test.true in
    let p = c.loop-partition.partition in
    let first = c.args.seat.now.view in
    let then = c.census-census.new.seat.view in
    let threads = length c.args.workers.now in
    let workers = worker_in c.args.workers.now in
    let before = c.args.report.now.items in
    let after = c.push.new.self.items in
    let same : c.balance-bytes.new.seat.view ≡ then = ap (λ (s : Share). s.view) c.balance-bytes.ensures.seat in
    let balance : IsBalance p then c.balance-bytes.result =
    record { live = c.balance-bytes.ensures.live; quarantined = c.balance-bytes.ensures.quarantined } in
    record {
      region = ap (λ (s : Share). s.region) c.balance-bytes.ensures.seat ∙ (c.census-census.ensures.region ∙ sym c.requires.region);
      low = omega arith;
      reported = subst (λ (v : View). IsReported c.args.phase (p + 1) threads workers first v before after) (sym same)
          (report_more c.args.phase p _ threads workers first c.loop-partition.seat.view then before c.loop-partition.report.items after
          c.line_of-line.result
          c.loop-partition.invariant.reported c.aware.ensures.aware c.requires.every c.census-census.ensures.keeps
          c.census-census.ensures.same
          (c.line_of-line.ensures.right then c.census-census.ensures.taken balance) c.line_of-line.ensures.partition
          c.in_ok-push.ensures.items);
    }

pub returns-in_err-push-clause-asked : goal.returns-in_err-push-clause-asked
returns-in_err-push-clause-asked g c =
    let so = c.loop-partition.invariant.reported in
    let first = c.args.seat.now.view in
    let then = c.census-census.new.seat.view in
    let same : c.balance-bytes.new.seat.view ≡ then = ap (λ (s : Share). s.view) c.balance-bytes.ensures.seat in
    let every = asked_every first c.loop-partition.seat.view so.asked c.requires.every in
    subst (HasAsked first) (sym same)
    (asked_more _ first c.loop-partition.seat.view then so.asked c.census-census.ensures.keeps (c.census-census.ensures.same every))

pub returns-in_err-push-clause-begun : goal.returns-in_err-push-clause-begun
returns-in_err-push-clause-begun g c =
    let p = c.loop-partition.partition in
    let first = c.args.seat.now.view in
    let then = c.census-census.new.seat.view in
    let threads = length c.args.workers.now in
    let workers = worker_in c.args.workers.now in
    let before = c.args.report.now.items in
    let same : c.balance-bytes.new.seat.view ≡ then = ap (λ (s : Share). s.view) c.balance-bytes.ensures.seat in
    let asked =
    report_asked c.args.phase p _ threads workers first c.loop-partition.seat.view then before c.loop-partition.report.items
    c.loop-partition.invariant.reported c.aware.ensures.aware
    c.requires.every c.census-census.ensures.keeps c.census-census.ensures.same in any_err c.from_residual.result _ (
      p,
      c.loop-partition-test.true,
      subst (λ (v : View). IsReported c.args.phase p threads workers first v before c.push.new.self.items) (sym same)
          (subst (λ (ls : List ReportLine). IsReported c.args.phase p threads workers first then before ls)
          (sym c.in_err-push.ensures.items) asked),
    )
