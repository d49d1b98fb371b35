use Rattle.pa_examples.proofs.told.Otherwise.{other_reads_fit}
use Rattle.pa_examples.proofs.laws.other_reads_fit.Goals as goal

pub returns : goal.returns
returns c = other_reads_fit
