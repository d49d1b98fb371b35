use Rattle.pa_region.specs.Views.{least_stake}
use Rattle.pa_thread_state.proofs.Censusing.{tells_census, same_lists}
use Rattle.pa_thread_state.proofs.census.ask.Goals as goal

pub returns-clause-taken : goal.returns-clause-taken
returns-clause-taken g c =
    tells_census g.row.P c.deref_mut-root.result.now c.census-census.new.seat.view c.census-census.result c.pools_are_read.ensures
    c.kept.ensures.sound
    c.census-census.ensures.census c.census-census.ensures.listed c.census-census.ensures.pools

pub returns-clause-same : goal.returns-clause-same
returns-clause-same g c every =
    same_lists (least_stake c.args.seat.now.view.stakes) c.args.seat.now.view c.census-census.new.seat.view c.aware.ensures.aware
    c.aware-2.ensures.aware
    c.census-census.ensures.keeps every
