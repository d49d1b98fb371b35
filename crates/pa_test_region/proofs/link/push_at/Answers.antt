use Rattle.std.proofs.Common.{◌<◌, ◌∷◌, ◌∙◌, List, ap, sym, subst, arith}
use Rattle.std.specs.Prelude.{Contains}
use Rattle.pa_slot.specs.declared.title.Title.{Title}
use Rattle.pa_slot.specs.Links.{link_to}
use Rattle.pa_region.specs.Views.{free_of}
use Rattle.pa_link.specs.Chains.{IsChain, after_link}
use Rattle.pa_test_region.proofs.ChainRows.{row_pushed}
use Rattle.pa_test_region.proofs.link.push_at.Goals as goal

pub push-requires-clause-able : goal.push-requires-clause-able
push-requires-clause-able c =
    let v = c.args.seat.now.view in
    subst (λ t. 0 < free_of v t) (sym c.slot.ensures) (c.requires.row.row.free c.args.number c.requires.few.0)

pub push-requires-clause-size : goal.push-requires-clause-size
push-requires-clause-size c = ap (λ (t : Title). t.len) c.slot.ensures ∙ sym c.requires.row.size

pub push-requires-clause-few : goal.push-requires-clause-few
push-requires-clause-few c = let f = c.requires.row.few in let g = c.requires.few in omega arith

pub returns-clause-row : goal.returns-clause-row
returns-clause-row c =
    let v = c.args.seat.now.view in let link = link_to c.args.chain.now.head in
    let push = subst (λ t. (ts : List Title) → IsChain v c.args.chain.now ts → (Contains ts t → ⊥) →
    IsChain c.push.new.seat.view c.push.new.self (t ∷ ts)) c.slot.ensures c.push.ensures.chain in
    row_pushed c.args.born c.args.cut c.args.number link v c.push.new.seat.view c.args.chain.now c.push.new.self c.requires.row
    (c.push.ensures.view ∙ ap (λ t. after_link t link v) c.slot.ensures) push c.push.ensures.len c.push.ensures.slot_len
