use Rattle.pa_record.specs.Census.{census}
use Rattle.pa_audit_heap.specs.Walking.{AreFilledUp}
use Rattle.pa_audit_heap.proofs.censuses.Censuses.fill_up.Given as goal

abbrev pub invariant-loop-phase : goal.invariant-loop-phase
invariant-loop-phase l = AreFilledUp (census l.root) l._phase l.initial.self-inside.items.items l.self-inside.items.items
