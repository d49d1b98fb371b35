use Rattle.std.proofs.lemmas.Bool.{false≢true}
use Rattle.pa_audit_heap.proofs.made.is_of_class.Goals as goal

pub returns-in-None : goal.returns-in-None
returns-in-None c = (λ yes. absurd (false≢true yes), λ h. absurd (c.in-None.ensures.none c.args.class h))
