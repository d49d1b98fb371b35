-- From the first place of a clause to the first line at which it fails.
use Rattle.std.proofs.Common.{◌≡◌, ℕ, ◌+◌, ◌<◌, ◌≤◌, List, length, map, Option, Some, None, refl, sym, ◌∙◌, arith, inl, inr}
use Rattle.std.specs.Prelude.{IfSome, slice_get}
use Rattle.std.specs.Option.{option_map}
use Rattle.std.proofs.lemmas.Bool.{cases_lt}
use Rattle.std.proofs.lemmas.List.{length-map}
use Rattle.std.proofs.lemmas.Option.{slice_get_cases, slice_get_past}
use Rattle.pa_trace.specs.declared.script.Line.{Line}
use Rattle.pa_trace.specs.declared.script.Rules.{Rules}
use Rattle.pa_trace.specs.declared.script.Trace.{Trace}
use Rattle.pa_record.specs.declared.entry.Entry.{Entry}
use Rattle.pa_record.specs.declared.run.Run.{Run}
use Rattle.pa_lists.proofs.Members.{not_some}
use Rattle.pa_rules.specs.declared.played.Played.{Played}
use Rattle.pa_rules.specs.declared.verdict.Clause.{Clause}
use Rattle.pa_rules.specs.declared.verdict.Clause.TheVariants as clauses
use Rattle.pa_rules.specs.declared.verdict.Place.{Place}
use Rattle.pa_rules.specs.declared.verdict.Place.TheVariants as places
use Rattle.pa_rules.specs.Places.{line_at}
use Rattle.pa_rules.specs.Played.{key_of_entry, key_of_line, op_lines}
use Rattle.pa_rules.specs.RecordDemands.{IsRecord, LinesDemand}
use Rattle.pa_rules.specs.Tells.{TellsFirst}
use Rattle.pa_rules.specs.Told.{told_by}
use Rattle.pa_rules.specs.Verdicts.{Demand}
use Rattle.pa_audit.specs.Lined.{TellsLine}
use Rattle.pa_audit.specs.Placed.{IsThere}

-- ---- clauses that speak of records alone

abbrev pub IsOfRecords : Clause → Type 0
IsOfRecords clauses.Lines = Unit {0}
IsOfRecords clauses.Cells = ⊥
IsOfRecords clauses.Registers = Unit {0}
IsOfRecords clauses.Slots = Unit {0}
IsOfRecords clauses.Contents = Unit {0}
IsOfRecords clauses.Pool = ⊥
IsOfRecords clauses.Roots = ⊥
IsOfRecords clauses.Titles = ⊥
IsOfRecords clauses.Holders = ⊥
IsOfRecords clauses.Caches = Unit {0}
IsOfRecords clauses.Seen = Unit {0}
IsOfRecords clauses.Report = ⊥

-- of places that are no record's the clause asks nothing
pub record AsksRecords (c : Clause) (t : Trace) (r : Run) : Type 0 where
  pub roots : (p j : ℕ) → Demand c t (told_by r) (places.Root p j)
  pub pools : (j : ℕ) → Demand c t (told_by r) (places.Pool j)
  pub cells : (k j : ℕ) → Demand c t (told_by r) (places.Cell k j)
  pub report : (i : ℕ) → Demand c t (told_by r) (places.Report i)

pub asks_records : (c : Clause) (t : Trace) (r : Run) → IsOfRecords c → AsksRecords c t r
asks_records clauses.Lines t r of = record { roots = λ p j. tt; pools = λ j. tt; cells = λ k j. tt; report = λ i. tt }
asks_records clauses.Registers t r of = record { roots = λ p j. tt; pools = λ j. tt; cells = λ k j. tt; report = λ i. tt }
asks_records clauses.Slots t r of = record { roots = λ p j. tt; pools = λ j. tt; cells = λ k j. tt; report = λ i. tt }
asks_records clauses.Contents t r of = record { roots = λ p j. tt; pools = λ j. tt; cells = λ k j. tt; report = λ i. tt }
asks_records clauses.Caches t r of = record { roots = λ p j. tt; pools = λ j. tt; cells = λ k j. tt; report = λ i. tt }
asks_records clauses.Seen t r of = record { roots = λ p j. tt; pools = λ j. tt; cells = λ k j. tt; report = λ i. tt }
asks_records clauses.Cells t r of = absurd of
asks_records clauses.Pool t r of = absurd of
asks_records clauses.Roots t r of = absurd of
asks_records clauses.Titles t r of = absurd of
asks_records clauses.Holders t r of = absurd of
asks_records clauses.Report t r of = absurd of

pub line_told : (c : Clause) (t : Trace) (r : Run) (o : Option ℕ) → IsOfRecords c →
    TellsFirst (λ i. Demand c t (told_by r) (places.Record i)) o → TellsLine c t r (option_map (λ i. 2 + i) o)
line_told c t r None of tells = each
  where
    rest : AsksRecords c t r
    rest = asks_records c t r of

    each : (place : Place) → Demand c t (told_by r) place
    each (places.Record i) = tells i
    each (places.Root p j) = rest.roots p j
    each (places.Pool j) = rest.pools j
    each (places.Cell k j) = rest.cells k j
    each (places.Report i) = rest.report i
line_told c t r (Some i) of (unmet, before) = record { place = places.Record i; line = refl; unmet = unmet; before = above }
  where
    rest : AsksRecords c t r
    rest = asks_records c t r of

    above : (other : Place) → line_at r other < 2 + i → Demand c t (told_by r) other
    above (places.Record j) less = before j (omega (arith, less))
    above (places.Root p j) less = rest.roots p j
    above (places.Pool j) less = rest.pools j
    above (places.Cell k j) less = rest.cells k j
    above (places.Report j) less = rest.report j

-- ---- a record that doesn't meet its demand is there

pub first_there : (ps : List Played) (n : ℕ) (P : ℕ → Type 0) (o : Option ℕ) → length ps < n →
    ((i : ℕ) → ((x : Played) → IsRecord ps i x → ⊥) → P i) → TellsFirst P o → IfSome o (λ i. i < n)
first_there ps n P None few none tells = tt
first_there ps n P (Some i) few none (unmet, before) = elim (cases_lt i (length ps)) [
  | inl less ↦ omega (arith, less, few)
  | inr past ↦ absurd (unmet (none i (λ x at. not_some x (sym (slice_get_past ps i past) ∙ at))))
]

-- ---- a list beside the one that is due

-- where the first of two lists that are the same so far ends, both do
pub same_beyond : {A : Type 0} (xs ys : List A) (k i : ℕ) → k ≡ length xs → k < i → slice_get xs k ≡ slice_get ys k
    → slice_get xs i ≡ slice_get ys i
same_beyond xs ys k i end past same = elim ((slice_get_cases ys k).1) [
  | inl more ↦ absurd (not_some more.0 (sym (slice_get_past xs k (omega (arith, end))) ∙ same ∙ more.2))
  | inr few ↦ slice_get_past xs i (omega (arith, end, past)) ∙ sym (slice_get_past ys i (omega (arith, few.0, past)))
]

-- a record that isn't the one that is due is there, or it is missing at the end
pub line_there : (rules : Rules) (ls : List Line) (es : List Entry) (n : ℕ) (o : Option ℕ) → length es < n
    → TellsFirst (λ i. LinesDemand rules ls es (places.Record i)) o → IfSome o (λ i. i < n)
line_there rules ls es n None few tells = tt
line_there rules ls es n (Some i) few (unmet, before) = elim (cases_lt (length es) i) [
  | inl past ↦ absurd (unmet (same_beyond (map key_of_entry es) (map key_of_line (op_lines rules 2 1 ls)) (length es) i
      (sym (length-map es key_of_entry)) past (before (length es) past)))
  | inr most ↦ omega (arith, most, few)
]

-- ---- the clause that speaks of the report alone

pub report_told : (t : Trace) (r : Run) (o : Option ℕ) → TellsFirst (λ i. Demand clauses.Report t (told_by r) (places.Report i)) o →
    TellsLine clauses.Report t r (option_map (line_at r) (option_map places.Report o))
report_told t r None tells = each
  where
    each : (place : Place) → Demand clauses.Report t (told_by r) place
    each (places.Record i) = tt
    each (places.Root p j) = tt
    each (places.Pool j) = tt
    each (places.Cell k j) = tt
    each (places.Report i) = tells i
report_told t r (Some i) (unmet, before) = record { place = places.Report i; line = refl; unmet = unmet; before = above }
  where
    above : (other : Place) → line_at r other < line_at r (places.Report i) → Demand clauses.Report t (told_by r) other
    above (places.Record j) less = tt
    above (places.Root p j) less = tt
    above (places.Pool j) less = tt
    above (places.Cell k j) less = tt
    above (places.Report j) less = before j (omega (arith, less))

pub report_there : (r : Run) (o : Option ℕ) → IfSome o (λ i. i ≤ length r.report.items) → IfSome (option_map places.Report o) (IsThere r)
report_there r None there = tt
report_there r (Some i) there = there
