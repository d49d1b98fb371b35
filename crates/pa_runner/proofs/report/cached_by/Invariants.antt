use Rattle.pa_runner.proofs.Summed.{IsCaching}
use Rattle.pa_runner.proofs.report.cached_by.Given as goal

-- the lists of the workers before were added up
abbrev pub invariant-loop-worker : goal.invariant-loop-worker
invariant-loop-worker g l = IsCaching l.partition l.worker-index l.workers l.sum
