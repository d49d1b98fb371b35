use Rattle.std.proofs.Common.{◌≡◌, refl, subst}
use Rattle.pa_machine.specs.declared.slot.Slot.{Slot}
use Rattle.pa_slot.specs.Titles.{IsContentOf}
use Rattle.pa_machine.specs.Tables.{MayChange, state_of}
use Rattle.pa_machine.proofs.Enabling.{actor_is, write_over, change_writes}
use Rattle.pa_machine.proofs.tables.Tables.may_write.Goals as goal

pub returns-then-has_content : goal.returns-then-has_content
returns-then-has_content c = (
  λ yes. change_writes c.args.self.now c.args.actor c.args.at c.in-Some.slot.now.title (c.if-has_content.ensures.0 refl)
      (c.may_change.ensures.0 yes),
  λ h.
      let r = write_over c.args.self.now c.args.actor c.args.at c.requires.sound
      (actor_is c.args.self.now c.args.actor c.requires.actor) h in
      let same : r.0 ≡ c.in-Some.slot.now = let e = r.1 in let f = c.in-Some.ensures in cc in
      c.may_change.ensures.1 (subst (λ (o : Slot). MayChange (state_of c.args.self.now) c.args.actor o.title) same r.3),
)

pub returns-else-has_content : goal.returns-else-has_content
returns-else-has_content c = (
  λ yes. absurd (let e = c.if-has_content.false in cc),
  λ h.
      let r = write_over c.args.self.now c.args.actor c.args.at c.requires.sound
      (actor_is c.args.self.now c.args.actor c.requires.actor) h in
      let same : r.0 ≡ c.in-Some.slot.now = let e = r.1 in let f = c.in-Some.ensures in cc in
      c.has_content.ensures.1 (subst (λ (o : Slot). IsContentOf o.title c.args.at) same r.2),
)

pub returns-in-None : goal.returns-in-None
returns-in-None c = (
  λ yes. cc,
  λ h.
      let r = write_over c.args.self.now c.args.actor c.args.at c.requires.sound
      (actor_is c.args.self.now c.args.actor c.requires.actor) h in
      let e = r.1 in
      absurd (let f = c.in-None.ensures in cc),
)
