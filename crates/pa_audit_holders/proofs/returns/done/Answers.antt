use Rattle.std.proofs.Common.{sym, subst}
use Rattle.std.specs.Result.{IfOk}
use Rattle.pa_rules.specs.Roots.{journal_at}
use Rattle.pa_rules.specs.Caches.{DoneRow}
use Rattle.pa_audit_holders.specs.Lists.{cache_in}
use Rattle.pa_audit_holders.specs.Rows.{TellsRow}
use Rattle.pa_audit_holders.proofs.returns.done.Goals as goal

pub returns-in-Some-clause-row : goal.returns-in-Some-clause-row
returns-in-Some-clause-row c =
    subst (λ o. IfOk c.stepped.result (TellsRow
    (DoneRow (journal_at c.args.page.now.roots) c.args.page.now.told o c.args.seen (cache_in c.args.cache.now))
    (cache_in c.stepped.new.cache))) (sym c.in-Some.is) c.stepped.ensures.row
