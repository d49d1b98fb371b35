-- The clauses that say of each record by itself what they ask: lines, contents, seen; and the report.
use Rattle.std.proofs.Common.{ap}
use Rattle.std.specs.Prelude.{slice_get, map}
use Rattle.std.proofs.lemmas.List.Elements.{All-contains}
use Rattle.pa_trace.specs.declared.script.Trace.{Trace}
use Rattle.pa_trace.specs.Rules.{rules_of}
use Rattle.pa_record.specs.declared.report.ReportLine.{ReportLine}
use Rattle.pa_rules.specs.declared.verdict.Clause.TheVariants as clauses
use Rattle.pa_rules.specs.declared.verdict.Place.TheVariants as places
use Rattle.pa_rules.specs.Told.{Told, records_of}
use Rattle.pa_rules.specs.Played.{AreDue, op_lines, key_of_line, key_of_entry}
use Rattle.pa_rules.specs.Contents.{AreContents}
use Rattle.pa_rules.specs.Seen.{IsSeenInOrder}
use Rattle.pa_rules.specs.Report.{IsReport, IsReportLine, phases_of}
use Rattle.pa_rules.specs.Sizes.{usable_of}
use Rattle.pa_rules.specs.Legal.{phases_in}
use Rattle.pa_verdict.specs.Clauses.{IsMet, LinesArePlaces, ContentsArePlaces, SeenIsPlaces, ReportIsPlaces}
use Rattle.pa_lists.proofs.Indexed.{at_in, in_at, same_lists}
use Rattle.pa_lists.proofs.Elements.{all_from_members}

lines_meet : (t : Trace) (r : Told) → AreDue (rules_of t) t.lines r.entries → IsMet clauses.Lines t r
lines_meet t r h (places.Record i) = ap (λ zs. slice_get zs i) h
lines_meet t r h (places.Root p j) = tt
lines_meet t r h (places.Pool j) = tt
lines_meet t r h (places.Cell k j) = tt
lines_meet t r h (places.Report i) = tt

pub lines_are_places : LinesArePlaces
lines_are_places t r = (
  lines_meet t r,
  λ met. same_lists (map key_of_entry r.entries) (map key_of_line (op_lines (rules_of t) 2 1 t.lines)) (λ i. met (places.Record i)),
)

contents_meet : (t : Trace) (r : Told) → AreContents (usable_of t.version) r.cells (records_of t r) → IsMet clauses.Contents t r
contents_meet t r h (places.Record i) = λ x at. h x (at_in (records_of t r) i x at)
contents_meet t r h (places.Root p j) = tt
contents_meet t r h (places.Pool j) = tt
contents_meet t r h (places.Cell k j) = tt
contents_meet t r h (places.Report i) = tt

pub contents_are_places : ContentsArePlaces
contents_are_places t r = (
  contents_meet t r,
  λ met x among. let (i, at) = in_at (records_of t r) x among in met (places.Record i) x at,
)

seen_meets : (t : Trace) (r : Told) → IsSeenInOrder r.cells (records_of t r) → IsMet clauses.Seen t r
seen_meets t r h (places.Record i) = λ y at.
    let among = at_in (records_of t r) i y at in
    (h.ahead y among, λ x m n there before. h.rising x y m n there among before)
seen_meets t r h (places.Root p j) = tt
seen_meets t r h (places.Pool j) = tt
seen_meets t r h (places.Cell k j) = tt
seen_meets t r h (places.Report i) = tt

pub seen_is_places : SeenIsPlaces
seen_is_places t r = (
  seen_meets t r,
  λ met. record {
    ahead = λ x among. let (i, at) = in_at (records_of t r) x among in (met (places.Record i) x at).0;
    rising = λ x y m n first second before. let (i, at) = in_at (records_of t r) y second in
        (met (places.Record i) y at).1 x m n first before;
  },
)

abbrev IsRight : Trace → Told → ReportLine → Type 0
IsRight t r l = IsReportLine t.partitions t.threads (records_of t r) r.pools r.roots l

report_meets : (t : Trace) (r : Told) → IsReport (phases_in t.lines) t.partitions t.threads (records_of t r) r.pools r.roots r.report →
    IsMet clauses.Report t r
report_meets t r h (places.Report i) = (
  ap (λ zs. slice_get zs i) h.places,
  λ l at. All-contains (IsRight t r) r.report l h.right (at_in r.report i l at),
)
report_meets t r h (places.Root p j) = tt
report_meets t r h (places.Pool j) = tt
report_meets t r h (places.Cell k j) = tt
report_meets t r h (places.Record i) = tt

pub report_is_places : ReportIsPlaces
report_is_places t r = (
  report_meets t r,
  λ met. record {
    places = same_lists (map (λ (l : ReportLine). (l.phase, l.partition)) r.report) (phases_of t.partitions 1 (phases_in t.lines))
        (λ i. (met (places.Report i)).0);
    right = all_from_members (IsRight t r) r.report (λ l among. let (i, at) = in_at r.report l among in (met (places.Report i)).1 l at);
  },
)
