use Rattle.std.proofs.Common.{◌≡◌, None, arith, subst}
use Rattle.std.specs.Prelude.{ℕ, IfErr}
use Rattle.pa_region.specs.Views.{least_stake}
use Rattle.pa_thread_state.specs.Allocating.{GivesNone}
use Rattle.pa_thread_state.proofs.asks.map_from.Goals as goal

pub returns-in_default-clause-none : goal.returns-in_default-clause-none
returns-in_default-clause-none g c =
    let e : 3 ≡ c.args.partition = let low = c.requires.partition in omega arith in
    subst (λ (p : ℕ). IfErr c.map_at-in_default.result
    (GivesNone (least_stake c.args.seat.now.view.stakes) c.args.line p c.args.shape.supers None c.args.seat.now
    c.map_at-in_default.new.seat)) e
    c.map_at-in_default.ensures.none
