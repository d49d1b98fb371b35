use Rattle.pa_runner.proofs.Summed.{AreAdding}
use Rattle.pa_runner.proofs.report.counted_by.Given as goal

-- the counts of the workers before were added up
abbrev pub invariant-loop-worker : goal.invariant-loop-worker
invariant-loop-worker g l = AreAdding l.partition l.worker-index l.workers l.sum
