use Rattle.std.proofs.Common.{sym}
use Rattle.pa_place.proofs.Runs.{removed_is, none_removed}
use Rattle.pa_place.proofs.pool_plan.remove_run.Goals as goal

pub returns-in-Some-clause-removed : goal.returns-in-Some-clause-removed
returns-in-Some-clause-removed c =
    rw c.remove.ensures.items
    (removed_is c.args.first c.in-Some.at c.args.taken.now.items (rw c.deref.ensures.value at (sym c.in-Some.ensures)))

pub returns-in_default-clause-removed : goal.returns-in_default-clause-removed
returns-in_default-clause-removed c =
    none_removed c.args.first c.args.taken.now.items (rw c.deref.ensures.value at (sym c.in_default.ensures))
