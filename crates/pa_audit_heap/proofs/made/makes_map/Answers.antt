use Rattle.std.proofs.lemmas.Bool.{false≢true}
use Rattle.pa_audit_heap.proofs.made.makes_map.Goals as goal

pub returns-in-None : goal.returns-in-None
returns-in-None c = (λ yes. absurd (false≢true yes), λ (size, asks, len). absurd (c.in-None.ensures.none size asks))
