use Rattle.std.proofs.Common.{sym, ◌∙◌, ap}
use Rattle.pa_audit_records.specs.ByKeys.{value_at}
use Rattle.pa_audit_holders.proofs.Owning.{first_thread, first_nobody}
use Rattle.pa_audit_holders.proofs.owners.first_owner.Goals as goal

pub returns-in-Some : goal.returns-in-Some
returns-in-Some c =
    let at = value_at c.args.firsts.now in
    first_thread c.args.records.now at c.args.slot.slot c.args.slot.number c.in-Some.thread c.requires.returns c.key_at.ensures.sized
    (ap at (sym c.key_at.ensures.key) ∙ sym c.in-Some.ensures)

pub returns-in-None : goal.returns-in-None
returns-in-None c =
    let at = value_at c.args.firsts.now in
    first_nobody c.args.records.now at c.args.slot.slot c.args.slot.number c.requires.returns c.key_at.ensures.sized c.if-slot-eq0.false
    (ap at (sym c.key_at.ensures.key) ∙ sym c.in-None.ensures)
