use Rattle.std.proofs.Common.{◌≡◌, ◌∙◌, ◌<◌, ap, drop, length, subst, sym}
use Rattle.std.specs.Prelude.{All}
use Rattle.std.proofs.lemmas.List.Elements.{length_all_zip}
use Rattle.pa_record.specs.declared.report.ReportLine.{ReportLine}
use Rattle.pa_runner.specs.Phases.{worker_in}
use Rattle.pa_runner.specs.Reporting.{IsReported}
use Rattle.pa_delay_runner.specs.Counted.{AreRecounted, IsRecounted}
use Rattle.pa_delay_runner.specs.Played.{slots_in}
use Rattle.pa_delay_runner.proofs.Counting.{appended_are, behind_first, in_partitions, put_behind, report_with}
use Rattle.pa_delay_runner.proofs.report.report_phase.Goals as goal

pub recount-requires-clause-partitions : goal.recount-requires-clause-partitions
recount-requires-clause-partitions g c =
    let threads = length c.args.workers.now in
    let workers = worker_in c.args.workers.now in
    let before = c.args.report.now.items in
    let after = c.report_phase.new.report.items in
    let so = c.in_ok-report_phase.ensures.reported in
    subst (All (λ (l : ReportLine). l.partition < 4))
    (sym (behind_first before c.deref_mut.result.now after c.len-first.result (c.len-first.ensures ∙ c.args.report.now.ok.0)
    c.deref_mut.ensures.value))
    (in_partitions c.args.phase c.args.trace.now.partitions threads workers c.args.seat.now.view c.report_phase.new.seat.view before
    after so c.requires.partitions)

pub returns-clause-reported : goal.returns-clause-reported
returns-clause-reported g c =
    let threads = length c.args.workers.now in
    let workers = worker_in c.args.workers.now in
    let queues = slots_in c.args.queues.now in
    let before = c.args.report.now.items in
    let after = c.report_phase.new.report.items in
    let lines = c.recount.new.lines in
    let so : IsReported c.args.phase c.args.trace.now.partitions threads workers c.args.seat.now.view c.report_phase.new.seat.view
    before after = c.in_ok-report_phase.ensures.reported in
    let value = c.deref_mut.ensures.value in
    let first : c.len-first.result ≡ length before = c.len-first.ensures ∙ c.args.report.now.ok.0 in
    let are : AreRecounted threads workers queues (drop (length before) after) lines =
    subst (λ ls. AreRecounted threads workers queues ls lines)
    (behind_first before c.deref_mut.result.now after c.len-first.result first value) c.recount.ensures in
    let parts = appended_are c.args.phase c.args.trace.now.partitions threads workers c.args.seat.now.view
    c.report_phase.new.seat.view before after so in
    report_with threads workers queues c.args.phase c.args.trace.now.partitions c.args.seat.now.view c.report_phase.new.seat.view before
    after _ lines so are
    (put_behind before so.lines c.deref_mut.result.now after lines c.len-first.result _ first (value ∙ so.behind) (sym value)
    (sym c.deref_mut.ensures.len)
    (sym (length_all_zip (IsRecounted threads workers queues) (drop (length before) after) lines are) ∙ ap length parts))
