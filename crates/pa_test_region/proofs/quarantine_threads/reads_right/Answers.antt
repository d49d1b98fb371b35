use Rattle.pa_test_region.proofs.Sharing.{read_stays}
use Rattle.pa_test_region.proofs.quarantine_threads.reads_right.Goals as goal

pub returns-clause-stays : goal.returns-clause-stays
returns-clause-stays c =
    read_stays c.entries_stand_in_logs.ensures c.owns_change.ensures c.args.title c.read-value.result.0.0 0 c.read-value.result.1
    c.args.seat.now.view c.read-value.new.seat.view c.requires.able.1 c.read-value.ensures.view
