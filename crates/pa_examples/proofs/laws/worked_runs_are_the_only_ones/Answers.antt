use Rattle.pa_examples.proofs.worked.Only.{only_direct_maps, only_writes, only_purge}
use Rattle.pa_examples.proofs.laws.worked_runs_are_the_only_ones.Goals as goal

pub returns-clause-direct_maps : goal.returns-clause-direct_maps
returns-clause-direct_maps c = only_direct_maps

pub returns-clause-writes : goal.returns-clause-writes
returns-clause-writes c = only_writes

pub returns-clause-purge : goal.returns-clause-purge
returns-clause-purge c = only_purge
