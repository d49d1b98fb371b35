use Rattle.std.proofs.Common.{◌≡◌, ◌+◌, ◌<◌, List, length, Some, sym, ◌∙◌, ap, subst, arith}
use Rattle.std.specs.Prelude.{slice_get}
use Rattle.std.proofs.lemmas.Option.{slice_get-get_or}
use Rattle.pa_audit_records.specs.ByKeys.{value_at}
use Rattle.pa_record.specs.declared.report.Tally.{Tally}
use Rattle.pa_rules.specs.Roots.{journal_at}
use Rattle.pa_audit_holders.specs.Cached.{HaveCached}
use Rattle.pa_audit_report.specs.Counts.{HaveUses}
use Rattle.pa_audit_report.specs.declared.counts.InUse.{InUse}
use Rattle.pa_audit_report.specs.Due.{IsDueAt}
use Rattle.pa_audit_records.proofs.Cutting.{each_next, long_next}
use Rattle.pa_audit_report.proofs.due.column_of.Goals as goal

pub loop-at-preserved : goal.loop-at-preserved
loop-at-preserved c =
    let l = c.loop-at in
    let ps = c.args.records.now in
    let pools = c.args.run.now.pool.items in
    let roots = journal_at c.args.run.now.roots.items in
    let at = value_at c.args.known.now.homes in
    let known = c.requires.known in
    let uses = subst (λ (us : List InUse). HaveUses at c.args.partition ps us)
    (sym c.as_slice-in-loop-at.ensures.value) c.in_ok-uses.ensures.uses in
    let cached =
    subst (λ (us : List (List Tally)). HaveCached c.args.trace.now.partitions c.args.trace.now.threads roots ps us)
    (sym c.as_slice-in-loop-at-2.ensures.value) known.lists.cached in
    let all = c.args.known.now.censuses.items in
    let below : c.args.partition < length c.args.known.now.censuses.items = let many = known.censuses.many in
    omega (arith, many, c.requires.partition) in
    let there : slice_get c.args.known.now.censuses.items c.args.partition ≡ Some c.items-censuses.result.now =
    slice_get-get_or all c.args.partition c.index.result.now below ∙ ap Some (sym c.index.ensures) ∙
    ap Some (sym c.items-censuses.ensures.items) in
    let here = c.line_at-line.ensures c.args.trace.now.region c.args.trace.now.partitions c.args.trace.now.threads ps pools roots at
    c.requires.given known.lists.homes uses cached ((known.censuses.each c.args.partition c.items-censuses.result.now there).0) in
    record {
      many = long_next l.lines.items c.push.new.self.items c.line_at-line.result l.at c.in_ok-push.ensures.items l.invariant.many;
      column = each_next (λ k z. IsDueAt c.args.trace.now.partitions c.args.trace.now.threads ps pools roots (k + 1) c.args.partition z)
          l.lines.items c.push.new.self.items c.line_at-line.result l.at c.in_ok-push.ensures.items
          l.invariant.many l.invariant.column here;
    }
