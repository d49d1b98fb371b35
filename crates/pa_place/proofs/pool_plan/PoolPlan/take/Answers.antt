use Rattle.std.proofs.Common.{◌+◌, sym, subst, arith}
use Rattle.pa_record.specs.declared.taken.Taken.{Taken}
use Rattle.pa_record.specs.Pool.{IsFreeRun}
use Rattle.pa_place.proofs.Runs.{run_fits, took_sound, entered_sound}
use Rattle.pa_place.proofs.pool_plan.PoolPlan.take.Goals as goal
use Rattle.pa_place.proofs.pool_plan.PoolPlan.take.Goals.{in-Some, in_default}

pub push_reserved-requires : goal.push_reserved-requires
push_reserved-requires c =
    let s = c.self.inside in
    let t : Taken = record { entry = s.entries; first = c.in-Some.first; count = c.args.count } in
    let found : IsFreeRun c.args.self.now c.args.count c.in-Some.first = c.in-Some.ensures.0 in
    let run = subst (λ p. IsFreeRun p c.args.count c.in-Some.first) (sym c.self.view_is) found in
    let fits = run_fits s.supers s.entries s.taken.items t c.self.invariant.1 c.requires.some run in
    omega (arith, c.self.invariant.0)

pub invariant_of-self : goal.invariant_of-self
invariant_of-self c =
    let s = c.self.inside in
    elim c.match-found.branch [
      | in-Some w ↦
          let t : Taken = record { entry = s.entries; first = w.in-Some.first; count = c.args.count } in
          let found : IsFreeRun c.args.self.now c.args.count w.in-Some.first = w.in-Some.ensures.0 in
          let run = subst (λ p. IsFreeRun p c.args.count w.in-Some.first) (sym c.self.view_is) found in
          let e = w.push_reserved.ensures.capacity in
          rw w.self-inside-is (
            omega (arith, c.self.invariant.0),
            rw w.push_reserved.ensures.items (took_sound s.supers s.entries (s.entries + 1) s.taken.items t c.self.invariant.1
                c.requires.some run),
          )
      | in_default w ↦ rw w.self-inside-is (
        c.self.invariant.0,
        entered_sound s.supers s.entries (s.entries + 1) s.taken.items c.self.invariant.1,
      )
    ]
