use Rattle.pa_rules.specs.Sizes.{class_total}
use Rattle.pa_audit_holders.proofs.Clearing.{AreCleared}
use Rattle.pa_audit_holders.proofs.lists.clear_all.Given as goal

abbrev pub invariant-loop-partition : goal.invariant-loop-partition
invariant-loop-partition l = AreCleared (class_total l.version) l.initial.lists.items l.lists.items l.partition
