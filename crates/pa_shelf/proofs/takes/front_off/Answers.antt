use Rattle.std.proofs.Common.{◌≡◌, ◌∷◌, ◌∙◌, List, length, sym, subst, ap, arith}
use Rattle.std.specs.Prelude.{IsNone}
use Rattle.pa_slot.specs.declared.title.Title.{Title}
use Rattle.pa_slot.specs.Links.{front_of}
use Rattle.pa_link.specs.declared.chain.ChainParts.{ChainParts}
use Rattle.pa_link.specs.Chains.{slot_names, IsChain}
use Rattle.pa_shelf.specs.Moving.{parts_of_record}
use Rattle.pa_shelf.specs.Taking.{name_start}
use Rattle.pa_shelf.proofs.Pushing.{first_off}
use Rattle.pa_shelf.proofs.takes.front_off.Goals as goal

pub pop-title-requires-clause-chain : goal.pop-title-requires-clause-chain
pop-title-requires-clause-chain c =
    let (ts, is) = c.requires.chain in
    let same : c.of_parts-chain.result ≡ parts_of_record c.args.span.now c.args.first = c.of_parts-chain.ensures ∙
    c.parts_in.ensures.same in
    (ts, subst (λ (d : ChainParts). IsChain c.args.own.now.view d ts) (sym same) is)

pub returns-clause-front : goal.returns-clause-front
returns-clause-front c t ts is =
    let same : c.of_parts-chain.result ≡ parts_of_record c.args.span.now c.args.first = c.of_parts-chain.ensures ∙
    c.parts_in.ensures.same in
    let (rest, parts, chain) =
    c.pop-title.ensures.chain (t ∷ ts) (subst (λ (d : ChainParts). IsChain c.args.own.now.view d (t ∷ ts)) (sym same) is) in
    let many : length (t ∷ ts) ≡ c.of_parts-chain.result.len = is.many ∙ ap (λ (d : ChainParts). d.len) (sym same) in
    let some : IsNone c.pop-title.result → ⊥ = λ none. let zero = c.pop-title.ensures.none.0 none in omega arith in
    let both = first_off c.pop-title.result t ts rest some parts in (
      both.0,
      c.start_in.ensures ∙ (ap name_start chain.head ∙ ap (λ (us : List Title). name_start (front_of (slot_names us))) (sym both.1)),
    )
