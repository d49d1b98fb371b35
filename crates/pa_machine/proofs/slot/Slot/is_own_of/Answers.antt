use Rattle.std.proofs.Common.{refl, ◌∙◌, inl, inr}
use Rattle.std.proofs.lemmas.Bool.Decides.{eqb_tells}
use Rattle.pa_machine.proofs.Reading.{owner_is}
use Rattle.pa_machine.proofs.slot.Slot.is_own_of.Goals as goal

pub returns-in-Some : goal.returns-in-Some
returns-in-Some c =
    let owner = c.in-Some.owner in
    elim (eqb_tells owner.actor c.args.actor) [
      | inl y ↦ (λ yes. (owner.state, owner.sealed, c.in-Some.is ∙ owner_is owner c.args.actor owner.state y.1 refl), λ h. y.0)
      | inr n ↦ (λ yes. absurd (let e = n.0 in cc), λ h. absurd (n.1 (let e = c.in-Some.is in let f = h.2 in cc)))
    ]
