use Rattle.std.proofs.Common.{◌≡◌, ℕ, ◌<◌}
use Rattle.std.specs.Prelude.{Some, slice_get}
use Rattle.pa_rules.specs.declared.played.Played.{Played}
use Rattle.pa_rules.specs.Roots.{journal_at}
use Rattle.pa_audit_heap.specs.Parts.{NamesFull}
use Rattle.pa_audit_heap.proofs.refusals.refusals_meet.Given as goal

abbrev pub invariant-loop-found : goal.invariant-loop-found
invariant-loop-found l = record {
  at : l.at ≡ l.found-index;
  met : (i : ℕ) → i < l.found-index → (x : Played) → slice_get l.records i ≡ Some x → NamesFull (journal_at l.roots) x;
}
