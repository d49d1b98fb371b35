use Rattle.std.proofs.Common.{◌≡◌, ◌+◌, length, refl, sym, ap, subst, arith}
use Rattle.pa_rules.specs.Cells.{history_at}
use Rattle.pa_dangle.specs.Collected.{AreCollected}
use Rattle.pa_dangle.proofs.Gathering.{collected_none, collected_push, collected_skip}
use Rattle.pa_dangle.proofs.Leading.{ways_back}
use Rattle.pa_dangle.proofs.gather.collect.Goals.{in-Some+in_ok-push, in_default}
use Rattle.pa_dangle.proofs.gather.collect.Goals as goal

pub loop-record-preserved : goal.loop-record-preserved
loop-record-preserved c =
    let cells = history_at c.args.cells.now in
    let ps = c.args.records.now in
    let l = c.loop-record in
    let k = l.record-index in
    record {
      pairs = elim c.match-found.branch [
        | in-Some+in_ok-push w ↦
            subst (λ z. AreCollected cells ps z.items (k + 1)) (sym w.pairs-is)
            (subst (λ zs. AreCollected cells ps zs (k + 1)) (sym w.in_ok-push.ensures.items)
            (collected_push cells ps l.pairs.items k _ w.in-Some.pair c.requires.handles.1.rising c.loop-record-test.true
            w.in-Some.ensures.some l.invariant.pairs))
        | in_default w ↦
            subst (λ z. AreCollected cells ps z.items (k + 1)) (sym w.pairs-is)
            (collected_skip cells ps l.pairs.items k _ c.loop-record-test.true w.in_default.ensures.none l.invariant.pairs)
      ];
      ways =
          let long = l.invariant.ways.long in
          let same = l.ways.ok.0 in
          ways_back cells ps c.found_at-found.new.ways _ l.ways.len (omega (arith, long, same)) c.found_at-found.ensures.ways;
      at = ap (λ n. n + 1) l.invariant.at;
    }

pub returns : goal.returns
returns c =
    let l = c.loop-record in
    let end : l.record-index ≡ length c.args.records.now = omega (arith, c.loop-record-test.false, l.auto.record-index-end) in
    subst (λ n. AreCollected (history_at c.args.cells.now) c.args.records.now l.pairs.items n) end l.invariant.pairs

pub returns-then-uses_none : goal.returns-then-uses_none
returns-then-uses_none c =
    collected_none (history_at c.args.cells.now) c.args.records.now c.new.result.items c.new.ensures.items (c.if-uses_none.ensures refl)
