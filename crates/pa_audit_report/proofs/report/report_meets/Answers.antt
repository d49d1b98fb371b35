use Rattle.std.proofs.Common.{◌≡◌, ◌≤◌, List, length, subst}
use Rattle.std.specs.Prelude.{IfSome, slice_get}
use Rattle.pa_record.specs.declared.report.ReportLine.{ReportLine}
use Rattle.pa_rules.specs.declared.played.Played.{Played}
use Rattle.pa_rules.specs.declared.verdict.Place.TheVariants as places
use Rattle.pa_rules.specs.HeapDemands.{ReportDemand}
use Rattle.pa_rules.specs.Legal.{phases_in}
use Rattle.pa_rules.specs.Roots.{journal_at}
use Rattle.pa_rules.specs.Tells.{TellsFirst}
use Rattle.pa_audit_report.proofs.Before.{given_before}
use Rattle.pa_audit_report.proofs.Comparing.{tells_report}
use Rattle.pa_audit_report.proofs.report.report_meets.Goals as goal

pub due_report-requires-clause-given : goal.due_report-requires-clause-given
due_report-requires-clause-given c =
    given_before c.args.trace.now c.args.run.now c.args.records.now c.requires.limits c.requires.records c.requires.before

pub returns-clause-first : goal.returns-clause-first
returns-clause-first c =
    let t = c.args.trace.now in
    let r = c.args.run.now in
    let given = given_before t r c.args.records.now c.requires.limits c.requires.records c.requires.before in
    let told = subst (λ (ls : List ReportLine). TellsFirst (λ i. slice_get ls i ≡ slice_get c.in_ok-due.due.items i) c.first_other.result)
    c.report.ensures.report
    (subst (λ (ls : List ReportLine). TellsFirst (λ i. slice_get c.report.result.now i ≡ slice_get ls i) c.first_other.result)
    c.as_slice.ensures.value c.first_other.ensures.first) in
    subst (λ (ps : List Played). TellsFirst (λ i. ReportDemand (phases_in t.lines) t.partitions t.threads ps r.pool.items
    (journal_at r.roots.items) r.report.items (places.Report i)) c.first_other.result) c.requires.records
    (tells_report t.region t.partitions t.threads c.args.records.now r.pool.items (journal_at r.roots.items) given (phases_in t.lines)
    r.report.items c.in_ok-due.due.items c.in_ok-due.ensures c.first_other.result told)

pub returns-clause-there : goal.returns-clause-there
returns-clause-there c =
    subst (λ (ls : List ReportLine). IfSome c.first_other.result (λ i. i ≤ length ls)) c.report.ensures.report c.first_other.ensures.there
