use Rattle.std.proofs.Common.{◌≡◌, ℕ, List, Option, Some, None, arith, subst}
use Rattle.pa_record.specs.declared.history.CellEntry.{CellEntry}
use Rattle.pa_rules.specs.declared.played.Played.{Played}
use Rattle.pa_rules.specs.declared.verdict.Place.TheVariants as places
use Rattle.pa_rules.specs.Cells.{history_at}
use Rattle.pa_rules.specs.RecordDemands.{CellsDemand}
use Rattle.pa_rules.specs.Tells.{TellsFirst}
use Rattle.pa_audit_records.specs.Exchanges.{TellsPair}
use Rattle.pa_audit.proofs.Granted.{exchange_short}
use Rattle.pa_audit.proofs.Telling.{exchange_told, exchanges_all, swap_told}
use Rattle.pa_audit.proofs.cells.first_place.Goals as goal

abbrev Swaps : List (List CellEntry) → List Played → Option ℕ → Type 0
Swaps cells ps o = TellsFirst (λ i. CellsDemand (history_at cells) ps (places.Record i)) o

abbrev Exchanges : List (List CellEntry) → List Played → Option (ℕ × ℕ) → Type 0
Exchanges cells ps o = TellsPair (λ k j. CellsDemand (history_at cells) ps (places.Cell k j)) o

-- what is reported of the histories is reported of the run's
exchanges_of : (cells own : List (List CellEntry)) (ps : List Played) (o p : Option (ℕ × ℕ)) → cells ≡ own → o ≡ p →
    Exchanges cells ps o → Exchanges own ps p
exchanges_of cells own ps o p same is tells = subst (λ cs. Exchanges cs ps p) same (subst (λ q. Exchanges cells ps q) is tells)

pub overflow_cast-result : goal.overflow_cast-result
overflow_cast-result c =
    let k = c.in-Some-first.cell in
    let at = c.in-Some-first.at in
    let own = c.args.run.now.cells.items in
    let tells = exchanges_of c.cells-cells.result.now own c.args.records.now c.in_ok-first-in-None.first
    (Some (k, at)) c.cells-cells.ensures.cells c.in-Some-first.is c.in_ok-first-in-None.ensures in
    let less = exchange_short c.args.run.now c.args.records.now k at c.requires.short tells.0 in
    omega (arith, less)

pub returns-in-Some : goal.returns-in-Some
returns-in-Some c =
    let own = c.args.run.now.cells.items in
    swap_told (history_at own) c.args.records.now c.in-Some.at
    (subst (λ cs. Swaps cs c.args.records.now (Some c.in-Some.at)) c.cells-cells.ensures.cells c.in-Some.ensures)

pub returns-in-Some-first : goal.returns-in-Some-first
returns-in-Some-first c =
    let k = c.in-Some-first.cell in
    let at = c.in-Some-first.at in
    let own = c.args.run.now.cells.items in
    exchange_told (history_at own) c.args.records.now k at
    (subst (λ cs. Swaps cs c.args.records.now None) c.cells-cells.ensures.cells c.in-None.ensures)
    (exchanges_of c.cells-cells.result.now own c.args.records.now c.in_ok-first-in-None.first
    (Some (k, at)) c.cells-cells.ensures.cells c.in-Some-first.is c.in_ok-first-in-None.ensures)

pub returns-in-None-first : goal.returns-in-None-first
returns-in-None-first c =
    let own = c.args.run.now.cells.items in
    exchanges_all (history_at own) c.args.records.now
    (subst (λ cs. Swaps cs c.args.records.now None) c.cells-cells.ensures.cells c.in-None.ensures)
    (exchanges_of c.cells-cells.result.now own c.args.records.now c.in_ok-first-in-None.first None c.cells-cells.ensures.cells
    c.in-None-first.is c.in_ok-first-in-None.ensures)
