use Rattle.std.proofs.Common.{List, arith, sym, subst}
use Rattle.pa_record.specs.declared.history.CellEntry.{CellEntry}
use Rattle.pa_rules.specs.declared.played.Played.{Played}
use Rattle.pa_rules.specs.declared.verdict.Clause.TheVariants as clauses
use Rattle.pa_rules.specs.declared.verdict.Place.TheVariants as places
use Rattle.pa_rules.specs.Cells.{history_at}
use Rattle.pa_rules.specs.RecordDemands.{CellsDemand, SeenDemand}
use Rattle.pa_rules.specs.Tells.{TellsFirst}
use Rattle.pa_audit.specs.Lined.{TellsLine}
use Rattle.pa_audit.proofs.Granted.{all_within, exchanges_held, phases_rise, swaps_held}
use Rattle.pa_audit.proofs.Lining.{first_there, line_told}
use Rattle.pa_audit.proofs.order.seen_fails.Goals as goal

pub seen_meets-requires-clause-phases : goal.seen_meets-requires-clause-phases
seen_meets-requires-clause-phases c = phases_rise c.args.trace.now c.args.run.now c.args.records.now c.requires.records

pub seen_meets-requires-clause-within : goal.seen_meets-requires-clause-within
seen_meets-requires-clause-within c = all_within c.args.trace.now c.args.run.now c.args.records.now c.requires.records c.requires.limits

pub seen_meets-requires-clause-swaps : goal.seen_meets-requires-clause-swaps
seen_meets-requires-clause-swaps c i =
    subst (λ (cs : List (List CellEntry)). CellsDemand (history_at cs) c.args.records.now (places.Record i)) (sym c.cells.ensures.cells)
    (swaps_held c.args.trace.now c.args.run.now c.args.records.now c.requires.records (c.requires.before clauses.Cells (omega arith)) i)

pub seen_meets-requires-clause-exchanges : goal.seen_meets-requires-clause-exchanges
seen_meets-requires-clause-exchanges c k j =
    subst (λ (cs : List (List CellEntry)). CellsDemand (history_at cs) c.args.records.now (places.Cell k j)) (sym c.cells.ensures.cells)
    (exchanges_held c.args.trace.now c.args.run.now c.args.records.now c.requires.records
    (c.requires.before clauses.Cells (omega arith)) k j)

pub record_line-requires : goal.record_line-requires
record_line-requires c =
    let ps = c.args.records.now in
    let few = c.requires.few in
    first_there ps 4294967294 (λ i. SeenDemand (history_at c.cells.result.now) ps (places.Record i)) c.in_ok-at.at (omega (arith, few))
    (λ i none x at. absurd (none x at)) c.in_ok-at.ensures

pub returns : goal.returns
returns c =
    let t = c.args.trace.now in
    let r = c.args.run.now in
    let at = c.in_ok-at.at in
    subst (λ o. TellsLine clauses.Seen t r o) (sym c.record_line.ensures)
    (line_told clauses.Seen t r at tt
    (subst (λ (ps : List Played). TellsFirst (λ i. SeenDemand (history_at r.cells.items) ps (places.Record i)) at) c.requires.records
    (subst (λ (cs : List (List CellEntry)). TellsFirst (λ i. SeenDemand (history_at cs) c.args.records.now (places.Record i)) at)
    c.cells.ensures.cells c.in_ok-at.ensures)))
