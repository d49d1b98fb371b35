use Rattle.std.proofs.Common.{◌≡◌, ◌↔◌, subst}
use Rattle.pa_slot.specs.declared.word.SlotName.{SlotName}
use Rattle.pa_slot.specs.Count.{number_of}
use Rattle.pa_rules.specs.Roots.{journal_at}
use Rattle.pa_rules.specs.Holders.{IsHeld, WithThread}
use Rattle.pa_audit_holders.specs.declared.owners.Owner.TheVariants.{Thread}
use Rattle.pa_audit_holders.proofs.Holding.{held_is, issued_is}
use Rattle.pa_audit_holders.proofs.held.is_issued.Goals as goal

pub returns-in-Made : goal.returns-in-Made
returns-in-Made c =
    let ps = c.args.records.now in
    let roots = journal_at c.args.roots.now in
    let x = c.args.told in
    let seen = c.in-Made.seen in
    let n = c.numbered.result in
    let o = c.owner_of-owner.result in
    let held : (o ≡ Thread x.thread) ↔ IsHeld ps roots seen.slot (number_of seen.found.0) (WithThread x.thread) =
    subst (λ (z : SlotName). (o ≡ Thread x.thread) ↔ IsHeld ps roots z (number_of seen.found.0) (WithThread x.thread))
    c.numbered.ensures.slot
    (subst (λ k. (o ≡ Thread x.thread) ↔ IsHeld ps roots n.slot k (WithThread x.thread)) c.numbered.ensures.number
    (held_is ps roots n.slot n.number x.thread o c.requires.known c.owner_of-owner.ensures)) in
    let is = issued_is ps roots x seen c.in-Made.usable c.in-Made.is in
    (λ yes. is.0 (held.0 (c.is_owner.ensures.0 yes)), λ issued. c.is_owner.ensures.1 (held.1 (is.1 issued)))
