use Rattle.std.proofs.Common.{refl}
use Rattle.pa_cli.proofs.Right.{right_call}
use Rattle.pa_cli.proofs.alone.run_alone.Goals as goal

pub returns-clause-call : goal.returns-clause-call
returns-clause-call g c = right_call _ _ c.answer.ensures.cause c.answer.ensures.reads (λ _. (refl, refl))
