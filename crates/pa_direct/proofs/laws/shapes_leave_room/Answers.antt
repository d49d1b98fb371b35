use Rattle.pa_direct.proofs.Serving.{Serves-of}
use Rattle.pa_direct.proofs.laws.shapes_leave_room.Goals as goal

pub returns : goal.returns
returns c = Serves-of
