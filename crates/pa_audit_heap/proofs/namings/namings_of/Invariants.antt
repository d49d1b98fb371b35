use Rattle.std.proofs.Common.{◌≡◌}
use Rattle.pa_rules.specs.Roots.{journal_at}
use Rattle.pa_audit_heap.specs.Namings.{AreNamings}
use Rattle.pa_audit_heap.proofs.namings.namings_of.Given as goal

abbrev pub invariant-loop-journal : goal.invariant-loop-journal
invariant-loop-journal l = record {
  at : l.partition ≡ l.journal-index;
  namings : AreNamings (journal_at l.roots) l.partition 0 l.size l.namings.items;
}
