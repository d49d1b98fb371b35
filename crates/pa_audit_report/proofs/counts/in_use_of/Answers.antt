use Rattle.std.proofs.Common.{◌+◌, List, get_or, map, sym, subst, arith}
use Rattle.pa_audit_records.specs.ByKeys.{value_at}
use Rattle.std.proofs.lemmas.Option.{slice_get-get_or}
use Rattle.pa_rules.specs.declared.played.Played.{Played}
use Rattle.pa_rules.specs.Report.{until}
use Rattle.pa_audit_report.specs.Counts.{HasCounted, IsUse}
use Rattle.pa_audit_records.specs.Cuts.{HasEach}
use Rattle.pa_audit_report.specs.declared.counts.InUse.{InUse}
use Rattle.pa_audit_records.proofs.Cutting.{cut_order, each_next, each_none, long_next, low_none, until_is, within_records}
use Rattle.pa_audit_report.proofs.counts.in_use_of.Goals as goal

pub count_on-count-requires-clause-order : goal.count_on-count-requires-clause-order
count_on-count-requires-clause-order c =
    let l = c.loop-end in
    let i = l.end-index in
    cut_order (map (λ (x : Played). x.phase) c.args.records.now) i (i + 1) l.from _ (omega arith) l.invariant.low
    (c.requires.ends i _ (slice_get-get_or c.args.ends.now i 0 c.loop-end-test.true))

pub count_on-count-requires-clause-within : goal.count_on-count-requires-clause-within
count_on-count-requires-clause-within c =
    let i = c.loop-end.end-index in
    within_records c.args.records.now (i + 1) _ (c.requires.ends i _ (slice_get-get_or c.args.ends.now i 0 c.loop-end-test.true))

pub loop-end-init : goal.loop-end-init
loop-end-init c =
    let at = value_at c.args.homes.now in
    record {
      many = omega (arith, c.new-uses.ensures.items);
      low = low_none (map (λ (x : Played). x.phase) c.args.records.now) 0;
      counted = c.no_count-count.ensures at c.args.partition;
      uses = subst (λ (us : List InUse). HasEach (λ i u. IsUse at c.args.partition (until (i + 1) c.args.records.now) u) us)
          (sym c.new-uses.ensures.items)
          (each_none (λ i u. IsUse at c.args.partition (until (i + 1) c.args.records.now) u));
    }

pub loop-end-preserved : goal.loop-end-preserved
loop-end-preserved c =
    let l = c.loop-end in
    let i = l.end-index in
    let at = value_at c.args.homes.now in
    let ps = c.args.records.now in
    let end = get_or c.args.ends.now i 0 in
    let cut = c.requires.ends i (get_or c.args.ends.now i 0) (slice_get-get_or c.args.ends.now i 0 c.loop-end-test.true) in
    let used : IsUse at c.args.partition (until (i + 1) ps) c.in_use.result = record {
      count = c.count_on-count.result;
      counted = subst (λ xs. HasCounted at c.args.partition xs c.count_on-count.result)
          (until_is ps (i + 1) (get_or c.args.ends.now i 0) cut) c.count_on-count.ensures;
      live = c.in_use.ensures.live;
      quarantined = c.in_use.ensures.quarantined;
    } in
    record {
      many = long_next l.uses.items c.push.new.self.items c.in_use.result i c.in_ok-push.ensures.items l.invariant.many;
      low = cut.front;
      counted = c.count_on-count.ensures;
      uses = each_next (λ k u. IsUse at c.args.partition (until (k + 1) ps) u) l.uses.items c.push.new.self.items c.in_use.result i
          c.in_ok-push.ensures.items l.invariant.many l.invariant.uses used;
    }
