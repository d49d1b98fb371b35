use Rattle.std.proofs.Common.{sym}
use Rattle.pa_machine.proofs.Enabling.{actor_is, read_same, none_read}
use Rattle.pa_machine.proofs.tables.Tables.may_read.Goals as goal

pub returns-in-Some : goal.returns-in-Some
returns-in-Some c =
    let same = read_same c.args.self.now c.args.actor c.args.at c.in-Some.slot.now c.requires.sound
    (actor_is c.args.self.now c.args.actor c.requires.actor) (sym c.in-Some.ensures) in
    (λ yes. same.0 (c.is_held_by.ensures.0 yes), λ h. c.is_held_by.ensures.1 (same.1 h))

pub returns-in-None : goal.returns-in-None
returns-in-None c = (
  λ yes. cc,
  λ h. absurd (none_read c.args.self.now c.args.actor c.args.at c.requires.sound (actor_is c.args.self.now c.args.actor c.requires.actor)
      (sym c.in-None.ensures) h),
)
