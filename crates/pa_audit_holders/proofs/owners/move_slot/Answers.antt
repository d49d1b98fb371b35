use Rattle.std.proofs.Common.{subst}
use Rattle.pa_audit_records.specs.ByKeys.{value_at}
use Rattle.pa_audit_records.specs.Keys.{word_key}
use Rattle.pa_audit_records.specs.Tables.{Puts}
use Rattle.pa_audit_holders.specs.Owners.{made_owner}
use Rattle.pa_audit_holders.proofs.Owning.{fits_is, owners_more}
use Rattle.pa_audit_holders.proofs.owners.move_slot.Goals as goal

pub returns-clause-owners : goal.returns-clause-owners
returns-clause-owners c = λ ms h.
    let f = value_at c.args.owners.now in
    let g = value_at c.put.new.self in
    let held = c.owner_now-held.result in
    let puts : Puts f g (word_key c.args.slot.slot c.args.slot.number) (made_owner held c.args.course c.args.mover.thread) =
    subst (λ k. Puts f g k (made_owner held c.args.course c.args.mover.thread)) c.key_at.ensures.key
    (subst (λ o. Puts f g c.key_at.result o) c.made.ensures c.in_ok-put.ensures.puts) in
    owners_more c.args.records.now ms f g c.args.mover.line c.args.mover.thread c.args.course c.args.slot held c.key_at.ensures.sized
    c.requires.thread (c.owner_now-held.ensures ms h) puts h

pub returns-clause-fits : goal.returns-clause-fits
returns-clause-fits c = λ ms h.
    let is = fits_is c.args.records.now ms c.args.mover.line c.args.mover.thread c.args.course c.args.slot c.owner_now-held.result
    c.requires.known c.requires.thread (c.owner_now-held.ensures ms h) in
    (λ yes. is.0 (c.is_needed.ensures.0 yes), λ fits. c.is_needed.ensures.1 (is.1 fits))
