use Rattle.std.proofs.Common.{◌≡◌, ℕ, sym, subst, arith}
use Rattle.pa_thread_state.specs.Censuses.{TellsCensus}
use Rattle.pa_thread_state.proofs.heap.Heap.census.Goals as goal

pub returns-in_default-clause-taken : goal.returns-in_default-clause-taken
returns-in_default-clause-taken g c =
    let is : c.args.partition ≡ 3 = omega arith in
    subst (λ (p : ℕ). TellsCensus p c.ask-in_default.new.seat.view c.ask-in_default.result) (sym is) c.ask-in_default.ensures.taken
