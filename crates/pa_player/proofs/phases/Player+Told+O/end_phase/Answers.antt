use Rattle.std.proofs.Common.{◌+◌, length, ap, arith}
use Rattle.pa_player.specs.Player.{Player}
use Rattle.pa_player.specs.Told.{Lists}
use Rattle.pa_player.proofs.Phasing.{report_start, report_more, report_end}
use Rattle.pa_player.proofs.phases.Player+Told+O.end_phase.Goals as goal

pub loop-partition-init : goal.loop-partition-init
loop-partition-init g c = report_start c.args.self.now

pub report_line-line-requires-clause-root : goal.report_line-line-requires-clause-root
report_line-line-requires-clause-root g c =
    let roots = ap (λ (z : Player). length z.heap.roots) c.loop-partition.invariant.same in
    let many = c.requires.roots in
    let lt = c.loop-partition-test.true in
    omega arith

pub loop-partition-preserved : goal.loop-partition-preserved
loop-partition-preserved g c =
    report_more c.loop-partition.partition c.args.self.now c.loop-partition.self _ c.report_line-line.result c.loop-partition.invariant
    c.loop-partition-test.true c.report_line-line.ensures
    (ap (λ (z : Lists). record c.loop-partition.self { told = z }) c.in_ok-report.ensures.reported)

pub returns-clause-ended : goal.returns-clause-ended
returns-clause-ended g c =
    let past = c.loop-partition-test.false in
    let last = c.loop-partition.auto.partition-end in
    ap (λ (z : Player). record z { phase = z.phase + 1 })
    (report_end c.loop-partition.partition c.args.self.now c.loop-partition.self c.loop-partition.invariant (omega arith))
