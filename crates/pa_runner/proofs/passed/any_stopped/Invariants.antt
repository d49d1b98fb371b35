use Rattle.std.proofs.Common.{◌≡◌, ℕ, ◌<◌, false}
use Rattle.pa_runner.specs.Phases.{worker_in}
use Rattle.pa_runner.proofs.passed.any_stopped.Given as goal

-- those before aren't stopped
abbrev pub invariant-loop-worker : goal.invariant-loop-worker
invariant-loop-worker g l = (k : ℕ) → k < l.worker-index → (worker_in l.workers k).stopped ≡ false
