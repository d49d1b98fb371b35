use Rattle.pa_test_audit.proofs.heap.journals_of.Goals as goal

pub pool_meets-requires-clause-threads : goal.pool_meets-requires-clause-threads
pool_meets-requires-clause-threads c = c.are_rising.ensures.threads c.if-not-are_rising.false

pub journals_meet-requires-clause-threads : goal.journals_meet-requires-clause-threads
journals_meet-requires-clause-threads c = c.are_rising.ensures.threads c.if-not-are_rising.false
