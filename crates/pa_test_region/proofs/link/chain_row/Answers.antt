use Rattle.std.proofs.Common.{◌≡◌, ◌-◌, ◌+◌, subst, arith}
use Rattle.pa_test_region.specs.ChainRows.{IsRowChained}
use Rattle.pa_test_region.proofs.ChainRows.{chained_none}
use Rattle.pa_test_region.proofs.link.chain_row.Goals as goal

pub loop-done-init : goal.loop-done-init
loop-done-init c = record {
  region = c.requires.region;
  row = chained_none c.args.born c.args.cut (c.args.to - 0) c.args.seat.now.view c.new-chain.result
      (let f = c.requires.few in omega arith) c.requires.row c.new-chain.ensures;
}

pub push_at-requires-clause-row : goal.push_at-requires-clause-row
push_at-requires-clause-row c =
    let here : c.args.to - c.loop-done.done ≡ c.args.to - 1 - c.loop-done.done + 1 = let f = c.requires.few in omega arith in
    subst (λ n. IsRowChained c.args.born c.args.cut n c.loop-done.seat.view c.loop-done.chain) here c.loop-done.invariant.row

pub loop-done-preserved : goal.loop-done-preserved
loop-done-preserved c =
    let here : c.args.to - 1 - c.loop-done.done ≡ c.args.to - (c.loop-done.done + 1) = let f = c.requires.few in omega arith in
    record {
      region = c.push_at.ensures.region;
      row = subst (λ n. IsRowChained c.args.born c.args.cut n c.push_at.new.seat.view c.push_at.new.chain) here c.push_at.ensures.row;
    }

pub returns-clause-row : goal.returns-clause-row
returns-clause-row c =
    let here : c.args.to - c.loop-done.done ≡ c.args.from = let f = c.requires.few in omega arith in
    subst (λ n. IsRowChained c.args.born c.args.cut n c.loop-done.seat.view c.loop-done.chain) here c.loop-done.invariant.row
