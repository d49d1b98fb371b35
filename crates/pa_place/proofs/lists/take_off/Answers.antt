use Rattle.std.proofs.Common.{sym, ◌∙◌, ap, subst, ◌∷◌, ◌++◌, []}
use Rattle.pa_place.specs.Listing.{IsInTurn, without_index}
use Rattle.pa_place.proofs.Listing.{once_in_turn, without_last}
use Rattle.pa_place.proofs.lists.take_off.Goals as goal

pub returns-else-last-at-clause-without : goal.returns-else-last-at-clause-without
returns-else-last-at-clause-without c =
    let e = c.in-Some.ensures.items ∙ ap (λ k. c.pop.new.self.items ++ k ∷ []) c.if-last-at.false in
    let order = subst (λ xs. IsInTurn c.args.spans.now xs) e c.requires.order in
    sym (ap (without_index c.args.at) e ∙ without_last c.args.at c.pop.new.self.items (once_in_turn c.args.spans.now _ order))
