use Rattle.std.proofs.Common.{sym}
use Rattle.pa_machine.proofs.Enabling.{actor_is}
use Rattle.pa_machine.proofs.Reading.{ref_same, none_ref}
use Rattle.pa_machine.proofs.tables.Tables.holds_ref.Goals as goal

pub returns-in-Some : goal.returns-in-Some
returns-in-Some c =
    let same = ref_same c.args.self.now c.args.actor c.args.title c.in-Some.slot.now c.requires.sound
    (actor_is c.args.self.now c.args.actor c.requires.actor) (sym c.in-Some.ensures) in
    (λ yes. same.0 (c.has_ref_of.ensures.0 yes), λ holds. c.has_ref_of.ensures.1 (same.1 holds))

pub returns-in-None : goal.returns-in-None
returns-in-None c = (
  λ yes. cc,
  λ holds. absurd
      (none_ref c.args.self.now c.args.actor c.args.title c.requires.sound (actor_is c.args.self.now c.args.actor c.requires.actor)
      (sym c.in-None.ensures) holds),
)
