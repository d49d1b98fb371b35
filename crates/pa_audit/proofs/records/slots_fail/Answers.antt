use Rattle.std.proofs.Common.{List, sym, subst}
use Rattle.pa_rules.specs.declared.played.Played.{Played}
use Rattle.pa_rules.specs.declared.verdict.Clause.TheVariants as clauses
use Rattle.pa_rules.specs.declared.verdict.Place.TheVariants as places
use Rattle.pa_rules.specs.RecordDemands.{SlotsDemand}
use Rattle.pa_rules.specs.Tells.{TellsFirst}
use Rattle.pa_audit.specs.Lined.{TellsLine}
use Rattle.pa_audit.proofs.Lining.{line_told}
use Rattle.pa_audit.proofs.records.slots_fail.Goals as goal

pub returns : goal.returns
returns c =
    let t = c.args.trace.now in
    let r = c.args.run.now in
    subst (λ o. TellsLine clauses.Slots t r o) (sym c.record_line.ensures)
    (line_told clauses.Slots t r c.in_ok-at.at tt
    (subst (λ (ps : List Played). TellsFirst (λ i. SlotsDemand ps (places.Record i)) c.in_ok-at.at) c.requires.records
    c.in_ok-at.ensures))
