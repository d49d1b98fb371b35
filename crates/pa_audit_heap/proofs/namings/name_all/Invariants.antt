use Rattle.std.proofs.Common.{length}
use Rattle.pa_rules.specs.Roots.{journal_at}
use Rattle.pa_audit_heap.specs.Namings.{AreNamings}
use Rattle.pa_audit_heap.proofs.namings.name_all.Given as goal

abbrev pub invariant-loop-entry : goal.invariant-loop-entry
invariant-loop-entry l = AreNamings (journal_at l.roots) l.partition l.entry-index (length l.fn.namings.items) l.namings.items
