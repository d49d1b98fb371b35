use Rattle.std.proofs.Common.{◌≡◌, take}
use Rattle.pa_audit_holders.specs.Holding.{EntryMovesFitAt, KnowsJournal}
use Rattle.pa_audit_holders.specs.Owners.{FirstSoFar}
use Rattle.pa_audit_holders.proofs.tables.walk.Given as goal

abbrev pub invariant-loop-entry : goal.invariant-loop-entry
invariant-loop-entry l = record {
  at : l.at ≡ l.entry-index;
  table : KnowsJournal l.records (take l.at l.journal) l.table;
  first : FirstSoFar (EntryMovesFitAt l.records l.journal) l.at l.misfit;
}
