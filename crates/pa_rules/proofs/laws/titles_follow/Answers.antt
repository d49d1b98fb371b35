use Rattle.pa_rules.proofs.Following.{titles_follow}
use Rattle.pa_rules.proofs.laws.titles_follow.Goals as goal

pub returns : goal.returns
returns c = titles_follow
