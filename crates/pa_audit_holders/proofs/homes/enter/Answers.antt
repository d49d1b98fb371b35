use Rattle.std.proofs.Common.{sym, ◌∙◌, subst}
use Rattle.pa_audit_records.specs.ByKeys.{value_at}
use Rattle.pa_audit_records.specs.Tables.{Puts}
use Rattle.pa_rules.specs.Roots.{journal_at}
use Rattle.pa_audit_holders.proofs.Housing.{homes_more, entered_one}
use Rattle.pa_audit_holders.proofs.homes.enter.Goals as goal

pub returns-clause-homes : goal.returns-clause-homes
returns-clause-homes c =
    let f = value_at c.args.homes.now in
    let g = value_at c.put.new.self in
    homes_more (journal_at c.args.roots.now) f g c.args.slot c.args.home c.requires.homes c.key.ensures.start c.requires.home
    (subst (λ k. Puts f g k c.args.home) c.key.ensures.key c.in_ok-put.ensures.puts)

pub returns-clause-enters : goal.returns-clause-enters
returns-clause-enters c =
    let f = value_at c.args.homes.now in
    let g = value_at c.put.new.self in
    entered_one f g c.args.slot c.args.home c.key.ensures.start
    (subst (λ k. Puts f g k c.args.home) c.key.ensures.key c.in_ok-put.ensures.puts)

pub returns-in_err-put-clause-homes : goal.returns-in_err-put-clause-homes
returns-in_err-put-clause-homes c = λ k h is. c.requires.homes k h (sym (c.in_err-put.ensures.same k) ∙ is)
