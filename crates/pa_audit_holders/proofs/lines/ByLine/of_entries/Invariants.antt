use Rattle.std.proofs.Common.{◌≡◌}
use Rattle.pa_audit_holders.proofs.Indexing.{AreOnLinesTo}
use Rattle.pa_audit_holders.proofs.lines.ByLine.of_entries.Given as goal

abbrev pub invariant-loop-entry : goal.invariant-loop-entry
invariant-loop-entry l = record {
  at : l.place ≡ l.entry-index;
  table : AreOnLinesTo l.journal l.count l.by_line l.entry-index;
}
