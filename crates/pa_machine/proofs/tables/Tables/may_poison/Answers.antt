use Rattle.std.proofs.Common.{sym}
use Rattle.pa_machine.proofs.Reading.{none_own}
use Rattle.pa_machine.proofs.Enabling.{actor_is, poison_same}
use Rattle.pa_machine.proofs.tables.Tables.may_poison.Goals as goal

pub returns-in-Some : goal.returns-in-Some
returns-in-Some c =
    let same = poison_same c.args.self.now c.args.actor c.args.title c.in-Some.slot.now c.requires.sound
    (actor_is c.args.self.now c.args.actor c.requires.actor) (sym c.in-Some.ensures) in
    (λ yes. same.0 (c.can_poison.ensures.0 yes), λ h. c.can_poison.ensures.1 (same.1 h))

pub returns-in-None : goal.returns-in-None
returns-in-None c = (
  λ yes. cc,
  λ h. absurd (none_own c.args.self.now c.args.actor c.args.title h.0 c.requires.sound
      (actor_is c.args.self.now c.args.actor c.requires.actor) (sym c.in-None.ensures) h.1),
)
