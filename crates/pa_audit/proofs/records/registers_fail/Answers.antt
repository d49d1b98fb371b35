use Rattle.std.proofs.Common.{List, sym, subst}
use Rattle.pa_rules.specs.Told.{told_by, records_of}
use Rattle.pa_record.specs.declared.history.CellEntry.{CellEntry}
use Rattle.pa_rules.specs.declared.played.Played.{Played}
use Rattle.pa_rules.specs.declared.verdict.Clause.TheVariants as clauses
use Rattle.pa_rules.specs.declared.verdict.Place.TheVariants as places
use Rattle.pa_rules.specs.Cells.{history_at}
use Rattle.pa_rules.specs.RecordDemands.{RegistersDemand}
use Rattle.pa_rules.specs.Sizes.{usable_of}
use Rattle.pa_rules.specs.Tells.{TellsFirst}
use Rattle.pa_audit.specs.Lined.{TellsLine}
use Rattle.pa_audit.proofs.Lining.{line_told}
use Rattle.pa_audit.proofs.records.registers_fail.Goals as goal

pub returns : goal.returns
returns c =
    let t = c.args.trace.now in
    let r = c.args.run.now in
    let at = c.in_ok-at.at in
    subst (λ o. TellsLine clauses.Registers t r o) (sym c.record_line.ensures)
    (line_told clauses.Registers t r at tt
    (subst (λ (ps : List Played). TellsFirst
    (λ i. RegistersDemand (usable_of c.args.trace.now.version) (history_at r.cells.items) ps (places.Record i)) at) c.requires.records
    (subst (λ (cs : List (List CellEntry)). TellsFirst (λ i. RegistersDemand (usable_of c.args.trace.now.version) (history_at cs)
    c.args.records.now (places.Record i)) at) c.cells.ensures.cells c.in_ok-at.ensures)))
