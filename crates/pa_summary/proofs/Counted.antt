-- What one more record adds to the counts, and one more line to the text.
use Rattle.std.proofs.Common.{arith, ◌≡◌, ◌∙◌, ℕ, ◌+◌, ◌<◌, ◌≤◌, ◌==◌, ◌⊎◌, inl, inr, cond, List, [], ◌++◌, length, get_or, set, drop, refl, sym, ap}
use Rattle.std.proofs.lemmas.List.{append_assoc, drop_more, get_or-set_same, get_or-set_other}
use Rattle.std.proofs.lemmas.List.Sums.{sum_by-cons}
use Rattle.std.proofs.lemmas.Bool.{eq-eqb, ne_eqb, cases_eq}
use Rattle.pa_record.specs.declared.entry.Entry.{Entry}
use Rattle.pa_record.specs.Text.{lines_from}
use Rattle.pa_summary.specs.SummaryText.{answer_number, has_answer, answer_count}

-- the count at a place after one more record of the answer there
one_more : (xs : List ℕ) (i k n : ℕ) → i < length xs → n ≡ i + 1 → (i ≡ k) ⊎ (i ≡ k → ⊥)
    → get_or (set xs i (get_or xs i 0 + 1)) k 0 ≡ get_or xs k 0 + cond (n == k + 1) 1 0
one_more xs i k n h is (inl same) = rw (sym same, is, eq-eqb (i + 1) (i + 1) refl) (get_or-set_same xs i (get_or xs i 0 + 1) 0 h)
one_more xs i k n h is (inr other) =
    rw (is, ne_eqb (i + 1) (k + 1) (λ e. other (omega (arith, e))))
    (get_or-set_other xs i k (get_or xs i 0 + 1) 0 (λ e. other (sym e)) ∙
    (let zero : get_or xs k 0 ≡ get_or xs k 0 + 0 = omega arith in zero))

-- with the records that are left the counts stay whole
pub counted_more : (es : List Entry) (i place : ℕ) (d : Entry) (counts : List ℕ) → length counts ≡ 18 → place < 18 → i < length es
    → place + 1 ≡ answer_number (get_or es i d).answer
    → ((k : ℕ) → k < 18 → get_or counts k 0 + answer_count (k + 1) (drop i es) ≡ answer_count (k + 1) es)
    → (k : ℕ) → k < 18 → get_or (set counts place (get_or counts place 0 + 1)) k 0 + answer_count (k + 1) (drop (i + 1) es) ≡ answer_count
    (k + 1) es
counted_more es i place d counts long small within is whole k less =
    let e = get_or es i d in
    let now = one_more counts place k (answer_number e.answer) (omega (arith, long, small)) (sym is) (cases_eq place k) in
    let left : answer_count (k + 1) (drop i es) ≡ has_answer (k + 1) e + answer_count (k + 1) (drop (i + 1) es) =
    ap (answer_count (k + 1)) (drop_more es i d within) ∙ sum_by-cons (has_answer (k + 1)) e (drop (i + 1) es) in
    omega (arith, now, left, whole k less)

small_by : (xs : List ℕ) (i k n : ℕ) → i < length xs → get_or xs i 0 ≤ n → get_or xs k 0 ≤ n → (i ≡ k) ⊎ (i ≡ k → ⊥)
    → get_or (set xs i (get_or xs i 0 + 1)) k 0 ≤ n + 1
small_by xs i k n h few also (inl same) = rw (sym same) (let e = get_or-set_same xs i (get_or xs i 0 + 1) 0 h in omega (arith, e, few))
small_by xs i k n h few also (inr other) = let e = get_or-set_other xs i k (get_or xs i 0 + 1) 0 (λ e. other (sym e)) in
    omega (arith, e, also)

-- no count passes the number of records so far
pub small_more : (counts : List ℕ) (i place : ℕ) → length counts ≡ 18 → place < 18 → ((k : ℕ) → k < 18 → get_or counts k 0 ≤ i)
    → (k : ℕ) → k < 18 → get_or (set counts place (get_or counts place 0 + 1)) k 0 ≤ i + 1
small_more counts i place long small few k less =
    small_by counts place k i (omega (arith, long, small)) (few place small) (few k less) (cases_eq place k)

-- with the lines that are left the text stays whole
pub lines_more : (f : ℕ → List ℕ → List ℕ) (names : List (List ℕ)) (i : ℕ) (out next line whole : List ℕ) → i < length names
    → next ≡ out ++ line → line ≡ f (i + 1) (get_or names i []) → out ++ lines_from f (i + 1) (drop i names) ≡ whole
    → next ++ lines_from f (i + 1 + 1) (drop (i + 1) names) ≡ whole
lines_more f names i out next line whole within is printed h =
    let rest = lines_from f (i + 1 + 1) (drop (i + 1) names) in
    let step : lines_from f (i + 1) (drop i names) ≡ f (i + 1) (get_or names i []) ++
    rest = ap (lines_from f (i + 1)) (drop_more names i [] within) in
    ap (λ (x : List ℕ). x ++ rest) is ∙ append_assoc out line rest
    ∙ ap (λ (x : List ℕ). out ++ (x ++ rest)) printed ∙ ap (λ (x : List ℕ). out ++ x) (sym step) ∙ h
