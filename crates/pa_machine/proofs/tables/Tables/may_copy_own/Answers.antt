use Rattle.std.proofs.Common.{sym}
use Rattle.pa_slot.specs.declared.title.OwnState.TheVariants.{Clean}
use Rattle.pa_machine.proofs.Enabling.{actor_is}
use Rattle.pa_machine.proofs.Reading.{copy_same, none_own}
use Rattle.pa_machine.proofs.tables.Tables.may_copy_own.Goals as goal

pub returns-in-Some : goal.returns-in-Some
returns-in-Some c =
    let same = copy_same c.args.self.now c.args.actor c.args.title c.in-Some.slot.now c.requires.sound
    (actor_is c.args.self.now c.args.actor c.requires.actor) (sym c.in-Some.ensures) in
    (λ yes. same.0 (c.can_copy.ensures.0 yes), λ holds. c.can_copy.ensures.1 (same.1 holds))

pub returns-in-None : goal.returns-in-None
returns-in-None c = (
  λ yes. cc,
  λ holds. absurd (none_own c.args.self.now c.args.actor c.args.title Clean c.requires.sound
      (actor_is c.args.self.now c.args.actor c.requires.actor) (sym c.in-None.ensures) holds.0),
)
