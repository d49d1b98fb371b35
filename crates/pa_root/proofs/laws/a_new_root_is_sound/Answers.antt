use Rattle.pa_root.proofs.Starting.{first_is_sound}
use Rattle.pa_root.proofs.laws.a_new_root_is_sound.Goals as goal

pub returns : goal.returns
returns c = first_is_sound
