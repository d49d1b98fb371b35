use Rattle.std.proofs.Common.{◌+◌, arith}
use Rattle.pa_place.proofs.Runs.{gave_sound}
use Rattle.pa_place.proofs.pool_plan.PoolPlan.give.Goals as goal

pub invariant_of-self : goal.invariant_of-self
invariant_of-self c =
    let s = c.self.inside in (
      omega (arith, c.self.invariant.0),
      rw c.remove_run.ensures.removed (gave_sound s.supers s.entries (s.entries + 1) c.args.first s.taken.items c.self.invariant.1),
    )
