use Rattle.std.proofs.Common.{sym, subst}
use Rattle.pa_link.specs.Chains.{IsChain}
use Rattle.pa_link.proofs.Chains.{front_free, popped}
use Rattle.pa_link.proofs.chain.Chain.pop.Goals as goal

pub next_front-head-requires-clause-able : goal.next_front-head-requires-clause-able
next_front-head-requires-clause-able c =
    let v = c.args.seat.now.view in
    front_free v c.self.inside.parts c.requires.chain.0 c.in-Some.name (subst (λ d. IsChain v d c.requires.chain.0)
    (sym c.self.view_is) c.requires.chain.1) c.in-Some.is

pub returns-in-Some-clause-chain : goal.returns-in-Some-clause-chain
returns-in-Some-clause-chain c ts is =
    let v = c.args.seat.now.view in
    popped v c.self.inside.parts c.in-Some.name c.next_front-head.result c.in-Some.is c.next_front-head.ensures.none
    c.next_front-head.ensures.next ts
    (subst (λ d. IsChain v d ts) (sym c.self.view_is) is)
