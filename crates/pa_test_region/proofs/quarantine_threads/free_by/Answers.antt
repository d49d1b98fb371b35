use Rattle.std.proofs.Common.{arith}
use Rattle.pa_region.proofs.PoisonedOwns.{poisoned_owns_unclean}
use Rattle.pa_test_region.proofs.Sharing.{has_stake, freed_stays}
use Rattle.pa_test_region.proofs.quarantine_threads.free_by.Goals as goal

pub free_owned-fate-requires-clause-able : goal.free_owned-fate-requires-clause-able
free_owned-fate-requires-clause-able c =
    (c.requires.able.0, has_stake c.args.seat.view 0 (omega arith) c.requires.lending.0, c.requires.able.1)

pub free_owned-fate-requires-clause-begins : goal.free_owned-fate-requires-clause-begins
free_owned-fate-requires-clause-begins c = poisoned_owns_unclean c.args.seat.view c.requires.lending.1

pub returns-clause-stays : goal.returns-clause-stays
returns-clause-stays c =
    freed_stays c.entries_stand_in_logs.ensures c.args.title c.free_owned-fate.result.0.0 c.args.seat.view c.free_owned-fate.new.seat.view
    (has_stake c.args.seat.view 0 (omega arith) c.requires.lending.0) c.free_owned-fate.ensures.made.view c.requires.lending.1
