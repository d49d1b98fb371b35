use Rattle.pa_legal.proofs.tallies.Adding.{tallies_follow}
use Rattle.pa_legal.proofs.laws.tallies_follow.Goals as goal

pub returns : goal.returns
returns c = tallies_follow
