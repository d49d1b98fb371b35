use Rattle.std.proofs.Common.{◌≡◌}
use Rattle.pa_audit_heap.proofs.Playing.{IsPlayed}
use Rattle.pa_audit_heap.proofs.pool.acts_fit.Given as goal

abbrev pub invariant-loop-entry : goal.invariant-loop-entry
invariant-loop-entry l = record {
  at : l.at ≡ l.entry-index;
  played : IsPlayed l.supers l.pools l.entry-index l.plan;
}
