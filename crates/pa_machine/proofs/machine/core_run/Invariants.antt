use Rattle.std.proofs.Common.{take}
use Rattle.pa_machine.specs.Trail.{IsRunTo, IsGoodState}
use Rattle.pa_machine.proofs.machine.core_run.Given as goal

abbrev pub invariant-loop-index : goal.invariant-loop-index
invariant-loop-index l = IsRunTo l.initial.core (take l.index l.events) l.core × IsGoodState l.core
