use Rattle.std.proofs.Common.{subst}
use Rattle.std.specs.Prelude.{slice_index_or}
use Rattle.pa_rules.specs.Lists.{IsTallyOf, no_tally}
use Rattle.pa_thread_state.specs.Lists.{WorkerCaches, numbered_in}
use Rattle.pa_thread_state.proofs.lists.Lists.sum.Goals as goal

pub returns : goal.returns
returns c v =
    subst (λ (z : WorkerCaches). IsTallyOf (numbered_in v z c.args.partition) (slice_index_or c.self.inside.sums c.args.partition no_tally))
    c.self.view_is
    ((c.self.invariant.right v).each c.args.partition c.requires.partition)
