use Rattle.std.proofs.Common.{◌≢◌, map, sym, ◌∙◌, ap, subst, arith}
use Rattle.std.specs.Prelude.{All, AllPairs}
use Rattle.pa_record.specs.Spans.{name_of}
use Rattle.pa_record.specs.Root.{IsOut, all_returned}
use Rattle.pa_audit_heap.proofs.SlotNames.{titled_more, all_more, all_at, front_whole}
use Rattle.pa_audit_heap.proofs.Rooting.{give_plays}
use Rattle.pa_audit_heap.proofs.replay.Replay.give.Goals as goal

pub push-requires : goal.push-requires
push-requires c =
    let few = c.requires.few in
    let within = c.loop-slot-test.true in
    let count = c.loop-slot.invariant.count in
    (omega arith, omega arith)

pub returns-in-None : goal.returns-in-None
returns-in-None c =
    λ fits. c.in-None.ensures.none
    (all_at (IsOut c.args.self.now.root) c.args.slots.now c.loop-slot.slot-index c.loop-slot-test.true fits.0)

pub loop-slot-preserved : goal.loop-slot-preserved
loop-slot-preserved c =
    let l = c.loop-slot in
    let found = c.in-Some.ensures.some in
    record {
      count = omega (arith, c.push.ensures.len, l.invariant.count);
      named = ap (map name_of) c.push.ensures.items ∙
          titled_more l.titles.items c.in-Some.title c.args.slots.now l.slot-index c.loop-slot-test.true l.invariant.named found.1;
      out = all_more (IsOut c.args.self.now.root) c.args.slots.now l.slot-index c.loop-slot-test.true l.invariant.out found.0;
    }

pub give-requires-clause-out : goal.give-requires-clause-out
give-requires-clause-out c =
    let l = c.loop-slot in
    let whole = front_whole c.args.slots.now l.slot-index c.loop-slot-test.false in
    let all = ap (map name_of) c.as_slice.ensures.value ∙ l.invariant.named in
    subst (λ xs. All (IsOut c.args.self.now.root) xs) (sym all) l.invariant.out

pub give-requires-clause-once : goal.give-requires-clause-once
give-requires-clause-once c =
    let l = c.loop-slot in
    let whole = front_whole c.args.slots.now l.slot-index c.loop-slot-test.false in
    let all = ap (map name_of) c.as_slice.ensures.value ∙ l.invariant.named ∙ whole in
    subst (λ xs. AllPairs ◌≢◌ xs) (sym all) (c.are_different.ensures.0 c.if-not-are_different.false)

pub returns : goal.returns
returns c =
    let l = c.loop-slot in
    let r = c.args.self.now.root in
    let whole = front_whole c.args.slots.now l.slot-index c.loop-slot-test.false in
    let all = ap (map name_of) c.as_slice.ensures.value ∙ l.invariant.named ∙ whole in
    give_plays c.args.pools.now c.args.self.now.plan r c.give.new.self c.args.slots.now c.requires.step
    (subst (λ xs. All (IsOut r) xs) whole l.invariant.out) (c.are_different.ensures.0 c.if-not-are_different.false)
    (c.give.ensures.returned ∙ ap (λ xs. all_returned xs r) all) (c.give.ensures.step c.args.self.now.plan.entries)
