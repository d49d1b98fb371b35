use Rattle.pa_cli.proofs.Right.{right_call}
use Rattle.pa_cli.proofs.top.run.Goals as goal

pub returns-then-plays_in_region-clause-call : goal.returns-then-plays_in_region-clause-call
returns-then-plays_in_region-clause-call g c = right_call _ _ c.answer.ensures.cause c.answer.ensures.reads c.answer.ensures.none
