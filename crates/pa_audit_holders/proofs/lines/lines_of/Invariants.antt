use Rattle.pa_audit_holders.proofs.Indexing.{HaveLinesTo}
use Rattle.pa_audit_holders.proofs.lines.lines_of.Given as goal

abbrev pub invariant-loop-journal : goal.invariant-loop-journal
invariant-loop-journal l = HaveLinesTo l.roots l.count l.tables.items l.journal-index
