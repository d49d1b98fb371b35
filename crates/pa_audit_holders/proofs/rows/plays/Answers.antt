use Rattle.std.proofs.Common.{sym, ◌∙◌, subst}
use Rattle.std.specs.Result.{IfOk}
use Rattle.pa_rules.specs.Roots.{journal_at}
use Rattle.pa_rules.specs.Caches.{CacheRow}
use Rattle.pa_audit_holders.specs.Lists.{cache_in}
use Rattle.pa_audit_holders.specs.Rows.{TellsRow}
use Rattle.pa_audit_holders.proofs.rows.plays.Goals as goal

pub returns-in-Made-clause-row : goal.returns-in-Made-clause-row
returns-in-Made-clause-row c =
    subst (λ a. IfOk c.made.result (TellsRow
    (CacheRow c.args.page.now.partitions (journal_at c.args.page.now.roots) c.args.page.now.told a (cache_in c.args.cache.now))
    (cache_in c.made.new.cache))) (sym c.in-Made.is ∙ c.answer.ensures) c.made.ensures.row

pub returns-in-Full-clause-row : goal.returns-in-Full-clause-row
returns-in-Full-clause-row c =
    subst (λ a. TellsRow
    (CacheRow c.args.page.now.partitions (journal_at c.args.page.now.roots) c.args.page.now.told a (cache_in c.args.cache.now))
    (cache_in c.args.cache.now) c.full.result) (sym c.in-Full.is ∙ c.answer.ensures) c.full.ensures

pub returns-in-Purged-clause-row : goal.returns-in-Purged-clause-row
returns-in-Purged-clause-row c =
    subst (λ a. TellsRow
    (CacheRow c.args.page.now.partitions (journal_at c.args.page.now.roots) c.args.page.now.told a (cache_in c.args.cache.now))
    (cache_in c.purged.new.cache) c.purged.result) (sym c.in-Purged.is ∙ c.answer.ensures) c.purged.ensures.row
