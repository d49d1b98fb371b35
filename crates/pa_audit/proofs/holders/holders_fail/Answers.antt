use Rattle.std.proofs.Common.{◌≡◌, List, Option, arith, sym, subst}
use Rattle.pa_trace.specs.declared.script.Trace.{Trace}
use Rattle.pa_record.specs.declared.root.RootEntry.{RootEntry}
use Rattle.pa_record.specs.declared.run.Run.{Run}
use Rattle.pa_rules.specs.declared.played.Played.{Played}
use Rattle.pa_rules.specs.declared.verdict.Clause.TheVariants as clauses
use Rattle.pa_rules.specs.declared.verdict.Place.{Place}
use Rattle.pa_rules.specs.Roots.{journal_at}
use Rattle.pa_rules.specs.Told.{told_by, records_of}
use Rattle.pa_rules.specs.Verdicts.{Demand}
use Rattle.pa_audit_holders.specs.Holding.{TellsHolders}
use Rattle.pa_audit_report.specs.Given.{AreRecordsOf}
use Rattle.pa_audit.specs.Lined.{TellsLine}
use Rattle.pa_audit.specs.Placed.{TellsPlace}
use Rattle.pa_audit.proofs.Granted.{holders_rest, slots_held}
use Rattle.pa_audit.proofs.Placing.{place_there, place_told}
use Rattle.pa_audit.proofs.Telling.{holders_told}
use Rattle.pa_audit.proofs.holders.holders_fail.Goals as goal

-- what is reported of these records and journals is reported of the run's places
places_of : (t : Trace) (r : Run) (ps : List Played) (roots : List (List RootEntry)) (o : Option Place) → AreRecordsOf t r ps →
    roots ≡ r.roots.items → TellsHolders ps (journal_at roots) o →
    TellsPlace (Demand clauses.Holders t (told_by r)) o
places_of t r ps roots o records is tells =
    holders_told (records_of t (told_by r)) (journal_at r.roots.items) o
    (subst (λ qs. TellsHolders qs (journal_at r.roots.items) o) records (subst (λ rs. TellsHolders ps (journal_at rs) o) is tells))

pub holders_meet-requires-clause-slots : goal.holders_meet-requires-clause-slots
holders_meet-requires-clause-slots c =
    slots_held c.args.trace.now c.args.run.now c.args.records.now c.requires.records (c.requires.before clauses.Slots (omega arith))

pub line_where-requires-clause-there : goal.line_where-requires-clause-there
line_where-requires-clause-there c =
    let t = c.args.trace.now in
    let r = c.args.run.now in
    place_there clauses.Holders t r c.in_ok-place.place (holders_rest t r)
    (places_of t r c.args.records.now c.roots.result.now c.in_ok-place.place c.requires.records c.roots.ensures.roots c.in_ok-place.ensures)

pub returns : goal.returns
returns c =
    let t = c.args.trace.now in
    let r = c.args.run.now in
    subst (λ o. TellsLine clauses.Holders t r o) (sym c.line_where.ensures)
    (place_told clauses.Holders t r c.in_ok-place.place (holders_rest t r)
    (places_of t r c.args.records.now c.roots.result.now c.in_ok-place.place c.requires.records c.roots.ensures.roots
    c.in_ok-place.ensures))
