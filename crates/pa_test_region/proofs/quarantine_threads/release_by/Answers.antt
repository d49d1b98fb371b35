use Rattle.pa_test_region.proofs.Sharing.{released_stays}
use Rattle.pa_test_region.proofs.quarantine_threads.release_by.Goals as goal

pub returns-clause-stays : goal.returns-clause-stays
returns-clause-stays c =
    released_stays c.entries_stand_in_logs.ensures c.args.title c.release-fate.result.0.0 c.args.seat.view c.release-fate.new.seat.view
    c.requires.able.0.1 c.release-fate.ensures.made.view c.requires.able.1
