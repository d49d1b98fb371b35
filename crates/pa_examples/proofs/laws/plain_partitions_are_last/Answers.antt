use Rattle.pa_examples.proofs.Plain.{plain_partitions_are_last}
use Rattle.pa_examples.proofs.laws.plain_partitions_are_last.Goals as goal

pub returns : goal.returns
returns c = plain_partitions_are_last
