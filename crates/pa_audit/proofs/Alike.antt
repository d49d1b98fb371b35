-- Runs that have the same lists have the same verdict.
use Rattle.std.proofs.Common.{◌≡◌, ℕ, ◌+◌, ◌<◌, List, [], length, take, refl, sym, ◌∙◌, ap, subst}
use Rattle.std.specs.Prelude.{slice_index_or, sum_by}
use Rattle.pa_trace.specs.declared.script.Trace.{Trace}
use Rattle.pa_record.specs.declared.entry.Entry.{Entry}
use Rattle.pa_record.specs.declared.root.RootEntry.{RootEntry}
use Rattle.pa_record.specs.declared.pool.PoolEntry.{PoolEntry}
use Rattle.pa_record.specs.declared.history.CellEntry.{CellEntry}
use Rattle.pa_record.specs.declared.report.ReportLine.{ReportLine}
use Rattle.pa_record.specs.declared.run.Run.{Run}
use Rattle.pa_rules.specs.declared.verdict.Clause.{Clause}
use Rattle.pa_rules.specs.declared.verdict.Verdict.{Verdict}
use Rattle.pa_rules.specs.declared.verdict.Verdict.TheVariants.{Legal, Broken}
use Rattle.pa_rules.specs.declared.verdict.Place.{Place}
use Rattle.pa_rules.specs.declared.verdict.Place.TheVariants as places
use Rattle.pa_rules.specs.Told.{Told, told_by}
use Rattle.pa_rules.specs.Legal.{IsLegalTold}
use Rattle.pa_rules.specs.Places.{line_at}
use Rattle.pa_rules.specs.Verdicts.{Demand, FailsAt, Holds, IsVerdict}
use Rattle.pa_dense.specs.Lists.{HasListsOf}

-- what is reported is made of the lists
abbrev told_of : List Entry → List (List RootEntry) → List PoolEntry → List (List CellEntry) → List ReportLine → Told
told_of es rs ps cs ls =
    record { entries = es; roots = λ p. slice_index_or rs p []; pools = ps; cells = λ k. slice_index_or cs k []; report = ls }

same_told : (a b : Run) → HasListsOf a b → told_by b ≡ told_by a
same_told a b same =
    ap (λ es. told_of es b.roots.items b.pool.items b.cells.items b.report.items) same.entries
    ∙ ap (λ rs. told_of a.entries.items rs b.pool.items b.cells.items b.report.items) same.roots
    ∙ ap (λ ps. told_of a.entries.items a.roots.items ps b.cells.items b.report.items) same.pool
    ∙ ap (λ cs. told_of a.entries.items a.roots.items a.pool.items cs b.report.items) same.cells
    ∙ ap (λ ls. told_of a.entries.items a.roots.items a.pool.items a.cells.items ls) same.report

-- the line of a place in the text of a run with these lists
abbrev line_of : List Entry → List (List RootEntry) → List PoolEntry → List (List CellEntry) → List ReportLine → Place → ℕ
line_of es rs ps cs ls (places.Record i) = 2 + i
line_of es rs ps cs ls (places.Root p j) = 2 + length es + sum_by length (take p rs) + j
line_of es rs ps cs ls (places.Pool j) = 2 + length es + sum_by length rs + j
line_of es rs ps cs ls (places.Cell k j) = 2 + length es + sum_by length rs + length ps + sum_by length (take k cs) + j
line_of es rs ps cs ls (places.Report i) = 2 + length es + sum_by length rs + length ps + sum_by length cs + i

lines_of : (r : Run) (place : Place) →
    line_at r place ≡ line_of r.entries.items r.roots.items r.pool.items r.cells.items r.report.items place
lines_of r (places.Record i) = refl
lines_of r (places.Root p j) = refl
lines_of r (places.Pool j) = refl
lines_of r (places.Cell k j) = refl
lines_of r (places.Report i) = refl

same_line : (a b : Run) → HasListsOf a b → (place : Place) → line_at b place ≡ line_at a place
same_line a b same place =
    lines_of b place
    ∙ ap (λ es. line_of es b.roots.items b.pool.items b.cells.items b.report.items place) same.entries
    ∙ ap (λ rs. line_of a.entries.items rs b.pool.items b.cells.items b.report.items place) same.roots
    ∙ ap (λ ps. line_of a.entries.items a.roots.items ps b.cells.items b.report.items place) same.pool
    ∙ ap (λ cs. line_of a.entries.items a.roots.items a.pool.items cs b.report.items place) same.cells
    ∙ ap (λ ls. line_of a.entries.items a.roots.items a.pool.items a.cells.items ls place) same.report
    ∙ sym (lines_of a place)

same_holds : (a b : Run) (t : Trace) (c : Clause) → HasListsOf a b → Holds c t b → Holds c t a
same_holds a b t c same holds = λ place. subst (λ u. Demand c t u place) (same_told a b same) (holds place)

same_fails : (a b : Run) (t : Trace) (c : Clause) (n : ℕ) → HasListsOf a b → FailsAt c t b n → FailsAt c t a n
same_fails a b t c n same fails = record {
  place = fails.place;
  line = fails.line ∙ same_line a b same fails.place;
  unmet = λ demand. fails.unmet (subst (λ u. Demand c t u fails.place) (sym (same_told a b same)) demand);
  before = λ other less. subst (λ u. Demand c t u other) (same_told a b same)
      (fails.before other (subst (λ m. m < n) (sym (same_line a b same other)) less));
}

pub same_verdict : (a b : Run) (t : Trace) (v : Verdict) → HasListsOf a b → IsVerdict v t b → IsVerdict v t a
same_verdict a b t Legal same legal = subst (IsLegalTold t) (same_told a b same) legal
same_verdict a b t (Broken c n) same is = (λ d less. same_holds a b t d same (is.0 d less), same_fails a b t c n same is.1)
