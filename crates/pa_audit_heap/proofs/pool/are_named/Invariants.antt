use Rattle.std.proofs.Common.{◌≡◌, ℕ, ◌<◌}
use Rattle.pa_rules.specs.Roots.{journal_at}
use Rattle.pa_audit_heap.specs.Parts.{IsNamedAt}
use Rattle.pa_audit_heap.proofs.pool.are_named.Given as goal

abbrev pub invariant-loop-entry : goal.invariant-loop-entry
invariant-loop-entry l = record {
  at : l.at ≡ l.entry-index;
  met : (j : ℕ) → j < l.entry-index → IsNamedAt l.pools (journal_at l.roots) j;
}
