use Rattle.std.proofs.Common.{ℕ, Option, subst}
use Rattle.pa_rules.specs.declared.verdict.Place.TheVariants as places
use Rattle.pa_rules.specs.Cells.{history_at}
use Rattle.pa_rules.specs.RecordDemands.{CellsDemand}
use Rattle.pa_audit_records.specs.Exchanges.{TellsPair}
use Rattle.pa_test_audit.proofs.seen.seen_of.Goals as goal

pub seen_meets-requires-clause-exchanges : goal.seen_meets-requires-clause-exchanges
seen_meets-requires-clause-exchanges c =
    let P = λ (o : Option (ℕ × ℕ)). TellsPair
    (λ k j. CellsDemand (history_at c.args.cells.now) c.as_slice-records.result.now (places.Cell k j)) o in
    subst P c.in-None.is c.in_ok-place.ensures
