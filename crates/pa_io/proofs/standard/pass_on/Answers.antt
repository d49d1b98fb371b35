use Rattle.pa_io.proofs.Moves.{Appends_part, Keeps_part, Keeps_refl}
use Rattle.pa_io.proofs.standard.pass_on.Goals as goal

pub returns-in-Ok-eq0-clause-part : goal.returns-in-Ok-eq0-clause-part
returns-in-Ok-eq0-clause-part g c = Appends_part _ _ _ _ c.in-Ok-eq0.field-0 c.in-Ok-eq0.ensures.bytes (Keeps_refl _)

pub returns-in-Err-flush-clause-part : goal.returns-in-Err-flush-clause-part
returns-in-Err-flush-clause-part g c = Appends_part _ _ _ _ c.in-Ok.n c.in-Ok.ensures.bytes c.in-Err-flush.ensures.bytes

pub returns-in-Err-clause-part : goal.returns-in-Err-clause-part
returns-in-Err-clause-part g c = Keeps_part _ _ _ c.in-Err.ensures.bytes
