use Rattle.pa_region.proofs.TakeLaws.{stakes_made}
use Rattle.pa_region.proofs.take_laws.stakes_made_theirs.Goals as goal

pub returns : goal.returns
returns c v r k aware has = stakes_made v r k aware has
