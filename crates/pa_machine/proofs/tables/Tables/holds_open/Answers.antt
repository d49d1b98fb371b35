use Rattle.std.proofs.Common.{refl, inl, inr}
use Rattle.pa_slot.specs.declared.title.OwnState.TheVariants.{Dirty}
use Rattle.pa_machine.proofs.Enabling.{open_either}
use Rattle.pa_machine.proofs.tables.Tables.holds_open.Goals as goal

pub returns-else-holds_own : goal.returns-else-holds_own
returns-else-holds_own c = (
  λ yes. (Dirty, (inr refl, c.holds_own-else-holds_own.ensures.0 yes)),
  λ h. elim (open_either c.args.self.now c.args.actor c.args.title h) [
    | inl clean ↦ absurd (let no = c.if-holds_own.ensures.1 clean in cc)
    | inr dirty ↦ c.holds_own-else-holds_own.ensures.1 dirty
  ],
)
