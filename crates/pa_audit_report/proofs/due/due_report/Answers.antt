use Rattle.std.proofs.Common.{◌≡◌, List, sym, ◌∙◌, ap, subst, arith}
use Rattle.pa_rules.specs.Roots.{journal_at}
use Rattle.pa_record.specs.declared.report.ReportLine.{ReportLine}
use Rattle.pa_rules.specs.Legal.{phases_in}
use Rattle.pa_rules.specs.Report.{IsReport}
use Rattle.pa_audit_report.specs.Due.{AreColumns}
use Rattle.pa_audit_report.proofs.Columns.{columns_next}
use Rattle.pa_audit_report.proofs.due.due_report.Goals as goal

pub loop-partition-preserved : goal.loop-partition-preserved
loop-partition-preserved c =
    let l = c.loop-partition in
    columns_next c.phases_in-phases.result c.args.trace.now.partitions c.args.trace.now.threads l.partition c.args.records.now
    c.args.run.now.pool.items (journal_at c.args.run.now.roots.items) l.columns.items c.push.new.self.items c.in_ok-column.column
    c.in_ok-push.ensures.items c.in_ok-column.ensures.long c.in_ok-column.ensures.column l.invariant

pub returns : goal.returns
returns c =
    let l = c.loop-partition in
    let all : l.partition ≡ c.args.trace.now.partitions = omega (arith, c.loop-partition-test.false, l.auto.partition-end) in
    let roots = journal_at c.args.run.now.roots.items in
    let whole = subst (λ n. AreColumns c.phases_in-phases.result c.args.trace.now.partitions c.args.trace.now.threads c.args.records.now
    c.args.run.now.pool.items (journal_at c.args.run.now.roots.items) n l.columns.items) all l.invariant in
    let there = subst (λ (cs : List (List ReportLine)). AreColumns c.phases_in-phases.result c.args.trace.now.partitions
    c.args.trace.now.threads c.args.records.now c.args.run.now.pool.items (journal_at c.args.run.now.roots.items)
    c.args.trace.now.partitions cs)
    (sym c.as_slice-2.ensures.value) whole in
    let report =
    c.in_ok-lines.ensures c.args.trace.now.threads c.args.records.now c.args.run.now.pool.items
    (journal_at c.args.run.now.roots.items) there in
    subst (λ n. IsReport n c.args.trace.now.partitions c.args.trace.now.threads c.args.records.now c.args.run.now.pool.items
    (journal_at c.args.run.now.roots.items) c.in_ok-lines.lines.items)
    (c.phases_in-phases.ensures.phases ∙ ap phases_in c.as_slice.ensures) report
