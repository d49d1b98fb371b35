use Rattle.std.proofs.Common.{◌≡◌, ◌∙◌, Bool, Some, sym, ap, subst}
use Rattle.pa_machine.specs.Tables.{is_sealed}
use Rattle.pa_machine.proofs.slot.Slot.is_owned_by.Goals as goal

pub returns : goal.returns
returns c = (
  λ yes. (c.is_sealed.result, c.is_own.ensures.0 yes),
  λ h.
      let same : h.0 ≡ c.is_sealed.result = sym (c.is_sealed.ensures ∙ ap is_sealed h.1) in
      c.is_own.ensures.1 (subst (λ (b : Bool). c.args.self.now.own ≡ Some
      (record { actor = c.args.actor; state = c.args.state; sealed = b })) same h.1),
)
