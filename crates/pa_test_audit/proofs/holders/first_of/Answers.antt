use Rattle.std.proofs.Common.{ℕ, Option, subst}
use Rattle.pa_rules.specs.declared.verdict.Place.TheVariants as places
use Rattle.pa_rules.specs.RecordDemands.{SlotsDemand}
use Rattle.pa_rules.specs.Tells.{TellsFirst}
use Rattle.pa_test_audit.proofs.holders.first_of.Goals as goal

pub holders_meet-requires-clause-slots : goal.holders_meet-requires-clause-slots
holders_meet-requires-clause-slots c =
    let P = λ (o : Option ℕ). TellsFirst (λ i. SlotsDemand c.as_slice-records.result.now (places.Record i)) o in
    subst P c.in-None.is c.in_ok-slots.ensures
