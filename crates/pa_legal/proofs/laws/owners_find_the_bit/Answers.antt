use Rattle.pa_legal.proofs.owners.Bit.{owners_find_the_bit}
use Rattle.pa_legal.proofs.laws.owners_find_the_bit.Goals as goal

pub returns : goal.returns
returns c = owners_find_the_bit
