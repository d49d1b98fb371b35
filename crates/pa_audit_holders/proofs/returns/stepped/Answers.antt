use Rattle.std.proofs.Common.{ℕ, ◌+◌, subst}
use Rattle.pa_rules.specs.Roots.{journal_at}
use Rattle.pa_rules.specs.Caches.{ReturnRow}
use Rattle.pa_audit_holders.specs.Lists.{cache_in}
use Rattle.pa_audit_holders.specs.Rows.{TellsRow}
use Rattle.pa_audit_holders.proofs.Leading.{done_returning}
use Rattle.pa_audit_holders.proofs.returns.stepped.Goals as goal

pub returns-clause-row : goal.returns-clause-row
returns-clause-row c =
    let roots = journal_at c.args.page.now.roots in
    let cache = cache_in c.args.cache.now in
    let after = cache_in c.put_back.new.cache in
    done_returning roots c.args.page.now.told c.args.step c.args.seen cache after c.in_ok-fits.fits
    (c.returns.ensures.0 c.if-not-returns.false)
    (subst (λ (n : ℕ). TellsRow (ReturnRow roots c.args.page.now.told (record { slot = c.args.seen.slot; number = n + 1 }) cache) after
    c.in_ok-fits.fits) c.number.ensures c.in_ok-fits.ensures.row)
