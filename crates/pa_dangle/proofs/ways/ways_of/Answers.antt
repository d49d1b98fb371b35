use Rattle.std.proofs.Common.{◌+◌, sym, ap, subst}
use Rattle.std.specs.Ordering.{nat_cmp}
use Rattle.std.specs.BTreeMap.{get}
use Rattle.pa_rules.specs.Cells.{history_at}
use Rattle.pa_dangle.specs.Ways.{AreWays}
use Rattle.pa_dangle.proofs.Leading.{puts_more, ways_more}
use Rattle.pa_dangle.proofs.ways.ways_of.Goals as goal

pub loop-record-preserved : goal.loop-record-preserved
loop-record-preserved c =
    let cells = history_at c.args.cells.now in
    let ps = c.args.records.now in
    let l = c.loop-record in
    let k = l.record-index in
    record {
      ways =
          subst (λ zs. AreWays cells ps zs (k + 1)) (sym c.in_ok-push.ensures.items)
          (ways_more cells ps l.ways.items c.way_by.result k _ c.loop-record-test.true c.way_by.ensures l.invariant.ways);
      last = puts_more cells ps (get nat_cmp l.last) (get nat_cmp c.enter.new.last) k l.at _ c.loop-record-test.true l.invariant.at
          c.requires.within c.in_ok-enter.ensures l.invariant.last;
      at = ap (λ n. n + 1) l.invariant.at;
    }
