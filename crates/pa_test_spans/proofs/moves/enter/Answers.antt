use Rattle.std.proofs.Common.{◌≤◌, length, ap, sym, subst, arith}
use Rattle.pa_spans.specs.Lists.{SpanListParts}
use Rattle.pa_test_spans.specs.Table.{listed_spans}
use Rattle.pa_test_spans.proofs.Counting.{few_after, turn_after}
use Rattle.pa_test_spans.proofs.moves.enter.Goals as goal

pub enter-requires-clause-few : goal.enter-requires-clause-few
enter-requires-clause-few c =
    few_after c.args.at c.args.to c.args.lists.now (listed_spans c.args.table.now.spans.items c.args.at) c.requires.kept.few
    (λ e. c.is_crowded.ensures c.if-is_crowded.false e)

pub returns : goal.returns
returns c =
    let l = c.args.lists.now in let s = listed_spans c.args.table.now.spans.items c.args.at in
    let few = few_after c.args.at c.args.to l s c.requires.kept.few (λ e. c.is_crowded.ensures c.if-is_crowded.false e) in
    let more = turn_after c.args.at c.args.to l s in
    let turn = ap (λ (z : SpanListParts). z.turn) c.enter.ensures.lists in
    let before = c.requires.kept.turn in
    record {
      kept = record {
        stand = c.enter.ensures.stand;
        few = subst (λ (z : SpanListParts). length z.ring ≤ 17) (sym c.enter.ensures.lists) few;
        turn = omega arith;
      };
    }
