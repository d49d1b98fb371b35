use Rattle.std.proofs.Common.{rules, ◌≡◌, [], sym, ◌∙◌, ap, subst}
use Rattle.pa_region.specs.Shares.{Share}
use Rattle.pa_root.specs.Kept.{IsKept}
use Rattle.pa_root.proofs.KeptOn.{kept_first}
use Rattle.pa_root.proofs.root.Root.open.Goals as goal

pub invariant_of-result : goal.invariant_of-result
invariant_of-result g c =
    let p = g.row.P in
    let same = c.seat.ensures.same in
    let first : IsKept p c.args.note.view [] c.in_ok-shelf.shelf =
    kept_first p c.args.note.view c.in_ok-shelf.shelf c.requires.first c.in_ok-shelf.ensures in
    let none : c.new-2.result.items ≡ [] = search rules in (
      ap (λ (x : Share). x.region) same ∙ c.requires.region,
      search rules,
      subst (λ es. IsKept p c.seat.result.view es c.in_ok-shelf.shelf) (sym none)
          (subst (λ (x : Share). IsKept p x.view [] c.in_ok-shelf.shelf) (sym same) first),
    )
