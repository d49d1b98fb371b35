use Rattle.std.proofs.Common.{refl}
use Rattle.pa_rules.specs.Roots.{journal_at}
use Rattle.pa_audit_holders.proofs.Holding.{slot_none, slot_told, stays_is}
use Rattle.pa_audit_holders.proofs.held.stays_there.Goals as goal

pub returns-in-Some : goal.returns-in-Some
returns-in-Some c =
    let slot = c.in-Some.slot in
    let is = stays_is (journal_at c.args.roots.now) c.args.told slot.slot slot.number (slot_told c.args.told slot c.in-Some.ensures) in
    (λ yes. is.0 (c.is_in_all.ensures.0 yes), λ there. c.is_in_all.ensures.1 (is.1 there))

pub returns-in-None : goal.returns-in-None
returns-in-None c = (λ yes p n k s gone of. absurd (slot_none c.args.told c.in-None.ensures s k of), λ there. refl)
