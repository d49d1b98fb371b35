use Rattle.pa_legal.proofs.Growing.{numbers_grow}
use Rattle.pa_legal.proofs.laws.numbers_grow.Goals as goal

pub returns : goal.returns
returns c = numbers_grow
