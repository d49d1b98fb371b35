use Rattle.std.proofs.lemmas.Bool.{both_ways}
use Rattle.pa_rules.specs.Roots.{journal_at}
use Rattle.pa_audit_holders.specs.Lists.{cache_in}
use Rattle.pa_audit_holders.proofs.Leading.{purged_row, purged_was}
use Rattle.pa_audit_holders.proofs.purges.purged.Goals as goal

pub returns-then-not-purges_all-clause-row : goal.returns-then-not-purges_all-clause-row
returns-then-not-purges_all-clause-row c = λ next row. both_ways _ c.if-not-purges_all.true
    (c.purges_all.ensures.1
    (purged_was c.args.page.now.partitions (journal_at c.args.page.now.roots) c.args.page.now.told c.args.slots
    (cache_in c.args.cache.now) next row))

pub returns-clause-row : goal.returns-clause-row
returns-clause-row c = purged_row c.args.page.now.partitions (journal_at c.args.page.now.roots) c.args.page.now.told c.args.slots
    (cache_in c.args.cache.now) (cache_in c.clear.new.self) c.clear.ensures.empty
    (c.purges_all.ensures.0 c.if-not-purges_all.false)
