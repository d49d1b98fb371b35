use Rattle.pa_examples.proofs.told.AllSaid.{other_reads_are_legal}
use Rattle.pa_examples.proofs.laws.other_reads_are_legal.Goals as goal

pub returns : goal.returns
returns c = other_reads_are_legal
