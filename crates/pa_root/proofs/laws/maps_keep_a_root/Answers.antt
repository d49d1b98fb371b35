use Rattle.pa_root.proofs.Mapped.{maps_keep}
use Rattle.pa_root.proofs.laws.maps_keep_a_root.Goals as goal

pub returns : goal.returns
returns c = maps_keep
