use Rattle.std.proofs.Common.{Some, None, sym, ◌∙◌, ap, subst}
use Rattle.pa_audit_records.specs.ByKeys.{value_at}
use Rattle.pa_rules.specs.Roots.{journal_at}
use Rattle.pa_audit_holders.specs.Books.{RunBooks}
use Rattle.pa_audit_holders.specs.Homes.{TellsHome}
use Rattle.pa_audit_holders.proofs.Housing.{home_found, home_none}
use Rattle.pa_audit_holders.proofs.Paging.{home_within}
use Rattle.pa_audit_holders.proofs.books.Books.home_of.Goals as goal

pub returns-in-Some-clause-home : goal.returns-in-Some-clause-home
returns-in-Some-clause-home c =
    let b = c.self.inside in
    let f = value_at b.homes.now in
    subst (λ (z : RunBooks). TellsHome (journal_at z.roots) c.args.slot (Some c.in-Some.home)) c.self.view_is
    (home_found (journal_at b.roots.now) f c.args.slot c.in-Some.home c.key.ensures.start c.self.invariant.homes
    (ap f (sym c.key.ensures.key) ∙ sym c.in-Some.ensures))

pub returns-in-Some-clause-partition : goal.returns-in-Some-clause-partition
returns-in-Some-clause-partition c =
    let b = c.self.inside in
    home_within b.roots.now c.args.slot c.in-Some.home c.self.invariant.four
    (home_found (journal_at b.roots.now) (value_at b.homes.now) c.args.slot c.in-Some.home c.key.ensures.start c.self.invariant.homes
    (ap (value_at b.homes.now) (sym c.key.ensures.key) ∙ sym c.in-Some.ensures))

pub returns-in-None-clause-home : goal.returns-in-None-clause-home
returns-in-None-clause-home c =
    let b = c.self.inside in
    let f = value_at b.homes.now in
    subst (λ (z : RunBooks). TellsHome (journal_at z.roots) c.args.slot None) c.self.view_is
    (home_none (journal_at b.roots.now) f c.args.slot c.self.invariant.homes (ap f (sym c.key.ensures.key) ∙ sym c.in-None.ensures))
