use Rattle.pa_rules.specs.Roots.{journal_at}
use Rattle.pa_audit_holders.specs.Lists.{cache_in}
use Rattle.pa_audit_holders.proofs.Purging.{ArePurging}
use Rattle.pa_audit_holders.proofs.purges.purges_all.Given as goal

abbrev pub invariant-loop-partition : goal.invariant-loop-partition
invariant-loop-partition l =
    ArePurging l.page.partitions (journal_at l.page.roots) l.page.told.line l.slots (cache_in l.cache) l.partition l.left
