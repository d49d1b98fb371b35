use Rattle.std.proofs.Common.{◌≡◌, sym, subst}
use Rattle.std.specs.Option.{IfSome}
use Rattle.pa_rules.specs.Roots.{journal_at}
use Rattle.pa_rules.specs.Caches.{IsOfClass}
use Rattle.pa_rules.specs.Sizes.{HasClass}
use Rattle.pa_audit_holders.specs.Homes.{IsHomeIn}
use Rattle.pa_audit_holders.specs.Lists.{cache_in}
use Rattle.pa_audit_holders.proofs.Leading.{back_by_class, back_by_map}
use Rattle.pa_audit_holders.proofs.returns.go_home.Goals as goal

pub put_in_list-requires-clause-class : goal.put_in_list-requires-clause-class
put_in_list-requires-clause-class c =
    let roots = journal_at c.args.page.now.roots in
    let s = c.args.slot.slot in
    let number : c.unwrap-class.result ≡ c.in-Some.number =
    subst (λ o. IfSome o (λ k. k ≡ c.in-Some.number)) c.unwrap-class.ensures c.of.ensures.class in
    let home = subst (λ o. IsHomeIn roots s c.args.home.partition o) c.in-Some.is c.requires.home.goes in
    subst (λ v. HasClass v c.unwrap-class.result) (sym c.requires.version)
    (c.requires.one.real c.args.home.partition c.unwrap-class.result
    (subst (λ k. IsOfClass roots s c.args.home.partition k) (sym number) home.0))

pub returns-in_ok-fits-in-Some-clause-row : goal.returns-in_ok-fits-in-Some-clause-row
returns-in_ok-fits-in-Some-clause-row c =
    let roots = journal_at c.args.page.now.roots in
    let s = c.args.slot.slot in
    let number : c.unwrap-class.result ≡ c.in-Some.number =
    subst (λ o. IfSome o (λ k. k ≡ c.in-Some.number)) c.unwrap-class.ensures c.of.ensures.class in
    let home = subst (λ o. IsHomeIn roots s c.args.home.partition o) c.in-Some.is c.requires.home.goes in
    back_by_class roots c.args.page.now.told c.args.slot (cache_in c.args.cache.now) (cache_in c.put_in_list.new.cache)
    c.args.home.partition c.unwrap-class.result c.in_ok-fits-in-Some.fits c.requires.one
    (subst (λ k. IsOfClass roots s c.args.home.partition k) (sym number) home.0) c.in_ok-fits-in-Some.ensures.row

pub returns-in-None-clause-row : goal.returns-in-None-clause-row
returns-in-None-clause-row c =
    let roots = journal_at c.args.page.now.roots in
    let s = c.args.slot.slot in
    back_by_map roots c.args.page.now.told c.args.slot (cache_in c.args.cache.now) c.args.home.partition c.is_unmapped.result
    c.requires.one (subst (λ o. IsHomeIn roots s c.args.home.partition o) c.in-None.is c.requires.home.goes) c.is_unmapped.ensures
