use Rattle.pa_region.proofs.LendBack.{none_poisoned}
use Rattle.pa_runner.proofs.phase.tell.Goals as goal

pub take-requires-clause-able : goal.take-requires-clause-able
take-requires-clause-able g c k t has = none_poisoned c.args.seat.now.view t c.requires.clean
