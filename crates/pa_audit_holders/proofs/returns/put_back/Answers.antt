use Rattle.pa_rules.specs.Roots.{journal_at}
use Rattle.pa_audit_holders.specs.Lists.{cache_in}
use Rattle.pa_audit_holders.proofs.Leading.{back_by_none}
use Rattle.pa_audit_holders.proofs.returns.put_back.Goals as goal

pub returns-in-None-clause-row : goal.returns-in-None-clause-row
returns-in-None-clause-row c =
    back_by_none (journal_at c.args.page.now.roots) c.args.page.now.told c.args.slot (cache_in c.args.cache.now) c.in-None.ensures.home
