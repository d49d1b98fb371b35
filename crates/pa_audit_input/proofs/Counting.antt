-- How many lines a text and a run's text have.
use Rattle.std.proofs.Common.{◌≡◌, ◌∙◌, ℕ, ◌+◌, ◌≤◌, List, [], ◌∷◌, ◌++◌, map, length, refl, ap, arith, inl, inr}
use Rattle.std.specs.Prelude.{sum_by}
use Rattle.std.proofs.lemmas.Bool.{cases_eq}
use Rattle.std.proofs.lemmas.List.{length-append, length-map}
use Rattle.std.proofs.lemmas.List.Sums.{sum_by-cons}
use Rattle.pa_trace.specs.Faults.{with_front, lines_of}
use Rattle.pa_trace.proofs.Cuts.{lf_front, other_front}
use Rattle.pa_record.specs.declared.run.Run.{Run}
use Rattle.pa_record.specs.RunText.{IsRunText}
use Rattle.pa_run_reader.specs.declared.item.Item.{Item}
use Rattle.pa_run_reader.specs.declared.item.Item.TheVariants as items
use Rattle.pa_run_reader.specs.Item.{item_text}
use Rattle.pa_run_reader.specs.Order.{numbered_items, listed_items, items_of}
use Rattle.pa_run_reader.proofs.OneReading.{items_lines}
use Rattle.pa_run_reader.proofs.Telling.{items_text}
use Rattle.pa_rules.specs.Places.{report_at}

-- ---- a text has no more lines than bytes

front_few : (b : ℕ) (lines : List (List ℕ)) → length (with_front b lines) ≤ 1 + length lines
front_few b [] = omega arith
front_few b (line ∷ lines) = elim (cases_eq b 10) [
  | inl lf ↦ let split = ap length (ap (λ (z : ℕ). with_front z (line ∷ lines)) lf ∙ lf_front (line ∷ lines)) in omega (arith, split)
  | inr other ↦ let split = ap length (other_front b line lines other) in omega (arith, split)
]

pub lines_few : (bytes : List ℕ) → length (lines_of bytes) ≤ length bytes
unfolding lines_of
lines_few [] = omega arith
lines_few (b ∷ bytes) = let few = front_few b (lines_of bytes) in let rest = lines_few bytes in omega (arith, few, rest)

-- ---- the lines of a run's text are its items

numbered_count : {A : Type 0} (at : ℕ → A → Item) (n : ℕ) (xs : List A) → length (numbered_items at n xs) ≡ length xs
numbered_count at n [] = refl
numbered_count at n (x ∷ xs) = let rest = numbered_count at (n + 1) xs in omega (arith, rest)

listed_count : {A : Type 0} (at : ℕ → ℕ → A → Item) (p : ℕ) (lists : List (List A)) → length (listed_items at p lists) ≡ sum_by length lists
listed_count at p [] = refl
listed_count at p (xs ∷ lists) =
    let rest = listed_count at (p + 1) lists in
    let first = numbered_count (at p) 0 xs in
    let long = length-append (numbered_items (at p) 0 xs) (listed_items at (p + 1) lists) in
    let sums = sum_by-cons length xs lists in
    omega (arith, rest, first, long, sums)

-- the last one, its end, is the line after the report
items_count : (r : Run) → length (items_of r) ≡ report_at r + length r.report.items
items_count r =
    let entries = map (λ e. items.Record e) r.entries.items in
    let roots = listed_items (λ p j e. items.Root p j e) 0 r.roots.items in
    let pool = numbered_items (λ j e. items.Pool j e) 0 r.pool.items in
    let cells = listed_items (λ k j e. items.Cell k j e) 0 r.cells.items in
    let report = map (λ l. items.Report l) r.report.items in
    let last = items.End ∷ [] in
    let a = length-append entries roots in
    let b = length-append (entries ++ roots) pool in
    let c = length-append (entries ++ roots ++ pool) cells in
    let d = length-append (entries ++ roots ++ pool ++ cells) report in
    let e = length-append (entries ++ roots ++ pool ++ cells ++ report) last in
    let f = length-map r.entries.items (λ e. items.Record e) in
    let g = listed_count (λ p j e. items.Root p j e) 0 r.roots.items in
    let h = numbered_count (λ j e. items.Pool j e) 0 r.pool.items in
    let i = listed_count (λ k j e. items.Cell k j e) 0 r.cells.items in
    let j = length-map r.report.items (λ l. items.Report l) in
    omega (arith, a, b, c, d, e, f, g, h, i, j)

-- the text of a run has no more lines than bytes
pub run_lines : (r : Run) (bytes : List ℕ) → IsRunText r bytes → report_at r + length r.report.items ≤ length bytes
run_lines r bytes h =
    let lines : lines_of bytes ≡ map item_text (items_of r) = ap lines_of (h.text ∙ items_text r) ∙ items_lines (items_of r) in
    let count = ap length lines ∙ length-map (items_of r) item_text in
    let all = items_count r in
    let few = lines_few bytes in
    omega (arith, count, all, few)
