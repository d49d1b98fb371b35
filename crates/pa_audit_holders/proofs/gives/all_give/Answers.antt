use Rattle.std.proofs.Common.{map}
use Rattle.std.proofs.lemmas.Bool.{false≢true}
use Rattle.pa_audit_holders.specs.Lines.{did_at}
use Rattle.pa_audit_holders.proofs.Giving.{gave_not}
use Rattle.pa_audit_holders.proofs.gives.all_give.Goals as goal

pub returns-in-None : goal.returns-in-None
returns-in-None c = (
  λ yes. absurd (false≢true yes),
  λ is. absurd (gave_not (map (did_at c.args.journal.now) c.args.places.now) c.args.slots.now c.in-None.ensures is),
)
