use Rattle.pa_audit_heap.proofs.Rising.{HaveRisen}
use Rattle.pa_test_audit.proofs.heap.are_rising.Given as goal

abbrev pub invariant-loop-found : goal.invariant-loop-found
invariant-loop-found l = HaveRisen l.records l.found-index l.least
