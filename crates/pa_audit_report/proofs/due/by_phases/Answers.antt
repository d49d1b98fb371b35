use Rattle.std.proofs.Common.{◌≡◌, ◌<◌, length, Some, sym, ◌∙◌, ap, arith}
use Rattle.std.specs.Prelude.{slice_get}
use Rattle.std.proofs.lemmas.Option.{slice_get-get_or}
use Rattle.pa_audit_report.proofs.Columns.{gathers_all, gathers_line, gathers_none, gathers_phase}
use Rattle.pa_audit_report.proofs.due.by_phases.Goals as goal

pub loop-at-init : goal.loop-at-init
loop-at-init c = gathers_none c.args.phases c.args.partitions c.args.columns.now c.new-lines.result.items c.new-lines.ensures.items

pub loop-at-preserved : goal.loop-at-preserved
loop-at-preserved c =
    let l = c.loop-partition in
    gathers_phase c.args.phases c.args.partitions c.loop-at.at l.partition c.args.columns.now l.lines.items
    (omega (arith, c.loop-partition-test.false, l.auto.partition-end)) l.invariant

pub loop-partition-preserved : goal.loop-partition-preserved
loop-partition-preserved c =
    let l = c.loop-partition in
    let columns = c.args.columns.now in
    let below : l.partition < length c.args.columns.now = omega (arith, c.loop-partition-test.true, c.requires.many) in
    let at : slice_get c.args.columns.now l.partition ≡ Some c.items-column.result.now =
    slice_get-get_or columns l.partition c.index-columns-partition.result below ∙ ap Some (sym c.index-columns-partition.is) ∙
    ap Some (sym c.items-column.ensures) in
    let long : length c.items-column.result.now ≡ c.args.phases = c.requires.long l.partition c.items-column.result.now at in
    let inside : c.loop-at.at < length c.items-column.result.now = omega (arith, long, c.loop-at-test.true) in
    gathers_line c.args.phases c.args.partitions c.loop-at.at l.partition columns l.lines.items c.push.new.self.items
    c.items-column.result.now _ c.loop-partition-test.true at
    (slice_get-get_or c.items-column.result.now c.loop-at.at _ inside) c.in_ok-push.ensures.items l.invariant

pub returns : goal.returns
returns c = gathers_all c.args.phases c.args.partitions c.loop-at.at c.args.columns.now c.loop-at.lines.items
    (omega (arith, c.loop-at-test.false, c.loop-at.auto.at-end)) c.loop-at.invariant
