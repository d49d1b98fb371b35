use Rattle.std.proofs.Common.{ℕ, ◌<◌}
use Rattle.pa_record.specs.Pool.{IsFreeRun}
use Rattle.pa_place.proofs.pool_plan.PoolPlan.lowest.Given as goal

abbrev pub invariant-loop-first : goal.invariant-loop-first
invariant-loop-first l = (k : ℕ) → k < l.first → IsFreeRun l.self l.count k → ⊥
