use Rattle.std.proofs.Common.{◌≡◌, ◌∙◌, ◌+◌, ◌-◌, refl, subst, arith}
use Rattle.pa_slot.specs.Links.{link_to}
use Rattle.pa_link.proofs.Gaps.{free_same}
use Rattle.pa_shelf.specs.Taking.{slot_beside, slots_beside}
use Rattle.pa_shelf.proofs.Pushing.{ArePushed, none_pushed, not_beside, pushed_one, all_pushed}
use Rattle.pa_shelf.proofs.takes.push_all.Goals as goal

pub loop-done-init : goal.loop-done-init
loop-done-init c = record {
  region = refl;
  pushed = none_pushed c.args.own.now.view c.args.first c.args.from c.args.count c.new-chain.result c.new-chain.ensures;
}

pub loop-done-preserved : goal.loop-done-preserved
loop-done-preserved c =
    let l = c.loop-done in let p = l.invariant.pushed in
    let first = c.args.first in let from = c.args.from in let count = c.args.count in let done = l.done in
    let v = c.args.own.now.view in let w = l.own.view in
    let number = from + (count - 1 - done) in
    let less = c.loop-done-test.true in
    let had = c.requires.able number (omega arith) (omega arith) in
    let same = free_same v w p.relinked (slot_beside first number) in
    record {
      region = c.push.ensures.region ∙ l.invariant.region;
      pushed = pushed_one v w c.push.new.seat.view first (slot_beside first number) from count done l.chain c.push.new.self
          (link_to l.chain.head) less p
          (omega arith) c.push.ensures.view refl c.push.ensures.slot_len c.push.ensures.len
          (c.push.ensures.chain (slots_beside first (from + count - done) done) p.chain
          (not_beside first number (from + count - done) done c.requires.some (omega arith)));
    }

pub returns-clause-chain : goal.returns-clause-chain
returns-clause-chain c =
    let l = c.loop-done in let v = c.args.own.now.view in
    let all : l.done ≡ c.args.count = omega arith in
    (all_pushed v l.own.view c.args.first c.args.from c.args.count l.chain
    (subst (λ n. ArePushed v l.own.view c.args.first c.args.from c.args.count n l.chain) all l.invariant.pushed)).0

pub returns-clause-beside : goal.returns-clause-beside
returns-clause-beside c =
    let l = c.loop-done in let v = c.args.own.now.view in
    let all : l.done ≡ c.args.count = omega arith in
    (all_pushed v l.own.view c.args.first c.args.from c.args.count l.chain
    (subst (λ n. ArePushed v l.own.view c.args.first c.args.from c.args.count n l.chain) all l.invariant.pushed)).1
