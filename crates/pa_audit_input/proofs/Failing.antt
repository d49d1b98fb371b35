-- A line at which a clause fails first is one of the run's text.
use Rattle.std.proofs.Common.{◌≡◌, ℕ, ◌+◌, ◌<◌, ◌≤◌, List, length, map, zip, sym, ◌∙◌, arith, inl, inr}
use Rattle.std.proofs.lemmas.Bool.{cases_lt}
use Rattle.std.proofs.lemmas.List.{length-map}
use Rattle.std.proofs.lemmas.Option.{slice_get_past, slice_get_within}
use Rattle.std.proofs.lemmas.Slice.Zip.{length-zip}
use Rattle.pa_trace.specs.declared.script.Trace.{Trace}
use Rattle.pa_trace.specs.Rules.{rules_of}
use Rattle.pa_record.specs.declared.report.ReportLine.{ReportLine}
use Rattle.pa_record.specs.declared.run.Run.{Run}
use Rattle.pa_lists.proofs.Members.{not_some}
use Rattle.pa_rules.specs.declared.played.Played.{Played}
use Rattle.pa_rules.specs.declared.verdict.Clause.{Clause}
use Rattle.pa_rules.specs.declared.verdict.Clause.TheVariants as clauses
use Rattle.pa_rules.specs.declared.verdict.Place.{Place}
use Rattle.pa_rules.specs.declared.verdict.Place.TheVariants as places
use Rattle.pa_rules.specs.Legal.{phases_in}
use Rattle.pa_rules.specs.Places.{line_at, report_at}
use Rattle.pa_rules.specs.Played.{beside, key_of_entry, key_of_line, op_lines}
use Rattle.pa_rules.specs.RecordDemands.{IsRecord}
use Rattle.pa_rules.specs.Report.{phases_of}
use Rattle.pa_rules.specs.Told.{records_of, told_by}
use Rattle.pa_rules.specs.Verdicts.{Demand, Holds, IsFirstFailing, turn}
use Rattle.pa_verdict.proofs.Verdict.{titles_never_fail}
use Rattle.pa_audit.specs.Placed.{IsThere}
use Rattle.pa_audit.proofs.Granted.{cells_rest, pool_rest, roots_rest, holders_rest}
use Rattle.pa_audit.proofs.Lining.{AsksRecords, asks_records, same_beyond}
use Rattle.pa_audit.proofs.Placing.{AsksThere, within_all}

-- the line of the run's end, which is the last one
abbrev last_line : Run → ℕ
last_line r = report_at r + length r.report.items

-- ---- places that are there

there_within : (r : Run) (place : Place) → IsThere r place → line_at r place ≤ last_line r
there_within r (places.Record i) there = omega (arith, there)
there_within r (places.Root p j) there = let bound = within_all r.roots.items p j there in omega (arith, bound)
there_within r (places.Pool j) there = omega (arith, there)
there_within r (places.Cell k j) there = let bound = within_all r.cells.items k j there in omega (arith, bound)
there_within r (places.Report i) there = omega (arith, there)

-- if nothing is asked of places that aren't there, a place that doesn't meet its demand is there
asked_within : (c : Clause) (t : Trace) (r : Run) (place : Place) → AsksThere c t r → (Demand c t (told_by r) place → ⊥)
    → line_at r place ≤ last_line r
asked_within c t r place rest unmet = elim (cases_lt (last_line r) (line_at r place)) [
  | inl past ↦ absurd (unmet (rest place (λ there. let most = there_within r place there in omega (arith, most, past))))
  | inr most ↦ most
]

-- ---- clauses that speak of records alone

no_record : (t : Trace) (r : Run) (i : ℕ) (x : Played) → (i < length r.entries.items → ⊥) → IsRecord (records_of t (told_by r)) i x → ⊥
no_record t r i x none at =
    let os = op_lines (rules_of t) 2 1 t.lines in
    let within = slice_get_within (records_of t (told_by r)) i x at in
    let long = length-map (zip os r.entries.items) beside in
    let few = length-zip os r.entries.items in
    none (omega (arith, within, long, few))

records_rest : (c : Clause) (t : Trace) (r : Run) → AsksRecords c t r
    → ((i : ℕ) → ((x : Played) → IsRecord (records_of t (told_by r)) i x → ⊥) → Demand c t (told_by r) (places.Record i)) → AsksThere c t r
records_rest c t r rest none (places.Record i) absent = none i (λ x at. no_record t r i x absent at)
records_rest c t r rest none (places.Root p j) absent = rest.roots p j
records_rest c t r rest none (places.Pool j) absent = rest.pools j
records_rest c t r rest none (places.Cell k j) absent = rest.cells k j
records_rest c t r rest none (places.Report i) absent = rest.report i

-- ---- clauses that compare two lists: the first of them ends where both do, or it fails there

-- each place of a line before meets its demand
abbrev HoldsAbove : Clause → Trace → Run → Place → Type 0
HoldsAbove c t r place = (other : Place) → line_at r other < line_at r place → Demand c t (told_by r) other

lines_within : (t : Trace) (r : Run) (place : Place) → (Demand clauses.Lines t (told_by r) place → ⊥) → HoldsAbove clauses.Lines t r place
    → line_at r place ≤ last_line r
lines_within t r (places.Record i) unmet above =
    let n = length r.entries.items in
    elim (cases_lt n i) [
      | inl past ↦ absurd (unmet (same_beyond (map key_of_entry r.entries.items) (map key_of_line (op_lines (rules_of t) 2 1 t.lines)) n i
          (sym (length-map r.entries.items key_of_entry)) past (above (places.Record n) (omega (arith, past)))))
      | inr most ↦ omega (arith, most)
    ]
lines_within t r (places.Root p j) unmet above = absurd (unmet tt)
lines_within t r (places.Pool j) unmet above = absurd (unmet tt)
lines_within t r (places.Cell k j) unmet above = absurd (unmet tt)
lines_within t r (places.Report i) unmet above = absurd (unmet tt)

-- the phase and the partition of a line of the report
abbrev report_key : ReportLine → ℕ × ℕ
report_key l = (l.phase, l.partition)

report_within : (t : Trace) (r : Run) (place : Place) → (Demand clauses.Report t (told_by r) place → ⊥) →
    HoldsAbove clauses.Report t r place
    → line_at r place ≤ last_line r
report_within t r (places.Report i) unmet above =
    let n = length r.report.items in
    elim (cases_lt n i) [
      | inl past ↦ absurd (unmet (
        same_beyond (map report_key r.report.items) (phases_of t.partitions 1 (phases_in t.lines)) n i
            (sym (length-map r.report.items report_key)) past
            (above (places.Report n) (omega (arith, past))).0,
        λ l at. absurd (not_some l (sym (slice_get_past r.report.items i (omega (arith, past))) ∙ at)),
      ))
      | inr most ↦ omega (arith, most)
    ]
report_within t r (places.Record i) unmet above = absurd (unmet tt)
report_within t r (places.Root p j) unmet above = absurd (unmet tt)
report_within t r (places.Pool j) unmet above = absurd (unmet tt)
report_within t r (places.Cell k j) unmet above = absurd (unmet tt)

-- ---- all of them

clause_within : (c : Clause) (t : Trace) (r : Run) (place : Place) → ((d : Clause) → turn d < turn c → Holds d t r)
    → (Demand c t (told_by r) place → ⊥) → HoldsAbove c t r place → line_at r place ≤ last_line r
clause_within clauses.Lines t r place before unmet above = lines_within t r place unmet above
clause_within clauses.Cells t r place before unmet above = asked_within clauses.Cells t r place (cells_rest t r) unmet
clause_within clauses.Registers t r place before unmet above =
    asked_within clauses.Registers t r place
    (records_rest clauses.Registers t r (asks_records clauses.Registers t r tt) (λ i none x at. absurd (none x at))) unmet
clause_within clauses.Slots t r place before unmet above =
    asked_within clauses.Slots t r place
    (records_rest clauses.Slots t r (asks_records clauses.Slots t r tt) (λ i none x m at mark. absurd (none x at))) unmet
clause_within clauses.Contents t r place before unmet above =
    asked_within clauses.Contents t r place
    (records_rest clauses.Contents t r (asks_records clauses.Contents t r tt) (λ i none x at. absurd (none x at))) unmet
clause_within clauses.Pool t r place before unmet above = asked_within clauses.Pool t r place (pool_rest t r) unmet
clause_within clauses.Roots t r place before unmet above = asked_within clauses.Roots t r place (roots_rest t r) unmet
clause_within clauses.Titles t r place before unmet above = absurd (unmet (titles_never_fail t r before place))
clause_within clauses.Holders t r place before unmet above = asked_within clauses.Holders t r place (holders_rest t r) unmet
clause_within clauses.Caches t r place before unmet above =
    asked_within clauses.Caches t r place
    (records_rest clauses.Caches t r (asks_records clauses.Caches t r tt) (λ i none x at. absurd (none x at))) unmet
clause_within clauses.Seen t r place before unmet above =
    asked_within clauses.Seen t r place
    (records_rest clauses.Seen t r (asks_records clauses.Seen t r tt) (λ i none x at. absurd (none x at))) unmet
clause_within clauses.Report t r place before unmet above = report_within t r place unmet above

pub failing_line : (c : Clause) (n : ℕ) (t : Trace) (r : Run) → IsFirstFailing c n t r → n ≤ report_at r + length r.report.items
failing_line c n t r h =
    let at = h.1.line in
    let most = clause_within c t r h.1.place h.0 h.1.unmet (λ other less. h.1.before other (omega (arith, less, at))) in
    omega (arith, at, most)
