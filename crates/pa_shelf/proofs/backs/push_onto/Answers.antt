use Rattle.std.proofs.Common.{◌≡◌, ◌+◌, ◌∷◌, ◌∙◌, sym, subst, ap}
use Rattle.pa_link.specs.declared.chain.ChainParts.{ChainParts}
use Rattle.pa_link.specs.Chains.{IsChain}
use Rattle.pa_shelf.specs.Moving.{parts_of_record, pushed_parts}
use Rattle.pa_shelf.proofs.Returning.{parts_alike}
use Rattle.pa_shelf.proofs.backs.push_onto.Goals as goal

pub returns-clause-chain : goal.returns-clause-chain
returns-clause-chain c ts is new =
    let p = parts_of_record c.args.span.now c.args.title in
    let same : c.of_parts-chain.result ≡ p = c.of_parts-chain.ensures ∙ c.parts_in.ensures.same in
    let now = c.push.new.self in
    subst (λ (d : ChainParts). IsChain c.push.new.seat.view d (c.args.title ∷ ts))
    (parts_alike now (pushed_parts c.args.title p) (c.push.ensures.slot_len ∙ ap (λ (d : ChainParts). d.slot_len) same) c.push.ensures.front
    (c.push.ensures.len ∙ ap (λ (d : ChainParts). d.len + 1) same))
    (c.push.ensures.chain ts (subst (λ (d : ChainParts). IsChain c.args.own.now.view d ts) (sym same) is) new)
