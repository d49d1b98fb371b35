use Rattle.pa_rules.specs.Roots.{journal_at}
use Rattle.pa_audit_holders.specs.Holding.{FoundSoFar}
use Rattle.pa_audit_holders.proofs.held.owner_of.Given as goal

abbrev pub invariant-loop-table : goal.invariant-loop-table
invariant-loop-table l = FoundSoFar l.records (journal_at l.roots) l.slot.slot l.slot.number l.table-index l.found
