use Rattle.std.proofs.Common.{sym}
use Rattle.pa_slot.proofs.Outcomes.{if_some}
use Rattle.pa_machine.proofs.tables.Tables.own_over.Goals as goal

pub returns-in-Some-clause-some : goal.returns-in-Some-clause-some
returns-in-Some-clause-some c =
    if_some c.own_place.result _ _ (λ p h. (c.in-Some.slot.now, h.0, h.1, sym c.in-Some.ensures, h.2, h.3)) c.own_place.ensures.some
