-- The first faulty line of a run's part, by the first bad line of a text.
use Rattle.std.proofs.Common.{◌≡◌, ◌∙◌, ℕ, ◌+◌, ◌<◌, ◌≤◌, List, [], ◌∷◌, ◌++◌, map, Option, Some, None, length, inl, inr, refl, sym, ap, subst, arith}
use Rattle.std.proofs.lemmas.List.{length-append}
use Rattle.pa_trace.specs.declared.fault.TraceFault.TheVariants.{BadLine, Limit}
use Rattle.pa_trace.specs.Faults.{lines_of}
use Rattle.pa_record.specs.declared.run.Run.{Run}
use Rattle.pa_record.specs.RunText.{IsRunText}
use Rattle.pa_run_reader.specs.declared.item.Item.{Item}
use Rattle.pa_run_reader.specs.Item.{FitsItem, item_text}
use Rattle.pa_run_reader.specs.Order.{Follows, IsFirstBad, AreInOrder, items_of}
use Rattle.pa_run_reader.proofs.OneReading.{items_lines}
use Rattle.pa_run_reader.proofs.Telling.{items_text, items_ordered}
use Rattle.pa_run_reader.proofs.TextLines.{lines_joined}
use Rattle.pa_audit_input.specs.Input.{most_audited, IsFirstOfRun}
use Rattle.pa_audit_input.specs.Cutting.{joined, IsLastCut}

-- the first bad line is one of these or the one after them
pub bad_below : (m : ℕ) (last : Option Item) (lines : List (List ℕ)) (k : ℕ) → IsFirstBad m last lines k → k ≤ m + length lines
bad_below m last [] k h = omega (arith, h.0)
bad_below m last (line ∷ lines) k (inl h) = omega (arith, h.0)
bad_below m last (line ∷ lines) k (inr h) = omega (arith, bad_below (m + 1) (Some h.0) lines k h.4)

-- the first bad line of lines that end early is the first faulty one
bad_within : (d m before : ℕ) (last : Option Item) (lines : List (List ℕ)) (k : ℕ) → before + length (joined lines) ≤ most_audited
    → IsFirstBad m last lines k → IsFirstOfRun (d + m) before last lines (BadLine (d + k))
bad_within d m before last [] k short h = (ap (λ (x : ℕ). BadLine (d + x)) h.0, h.1)
bad_within d m before last (line ∷ lines) k short (inl h) =
    inr (inl (omega (arith, length-append line (joined lines)), ap (λ (x : ℕ). BadLine (d + x)) h.0, h.1))
bad_within d m before last (line ∷ lines) k short (inr h) =
    let next : d + (m + 1) ≡ (d + m) + 1 = omega arith in
    let rest = bad_within d (m + 1) (before + length line) (Some h.0) lines k (omega (arith, length-append line (joined lines))) h.4 in
    inr (inr (
      omega (arith, length-append line (joined lines)),
      h.0,
      h.1,
      h.2,
      h.3,
      subst (λ (x : ℕ). IsFirstOfRun x (before + length line) (Some h.0) lines (BadLine (d + k))) next rest,
    ))

-- the first bad line of lines that end early, if it is one of them, is the first faulty one also with more lines after them
bad_before : (d m before : ℕ) (last : Option Item) (lines more : List (List ℕ)) (k : ℕ) → before + length (joined lines) ≤ most_audited
    → k < m + length lines → IsFirstBad m last lines k → IsFirstOfRun (d + m) before last (lines ++ more) (BadLine (d + k))
bad_before d m before last [] more k short less h = absurd (omega (arith, h.0, less))
bad_before d m before last (line ∷ lines) more k short less (inl h) =
    inr (inl (omega (arith, length-append line (joined lines)), ap (λ (x : ℕ). BadLine (d + x)) h.0, h.1))
bad_before d m before last (line ∷ lines) more k short less (inr h) =
    let next : d + (m + 1) ≡ (d + m) + 1 = omega arith in
    let rest = bad_before d (m + 1) (before + length line) (Some h.0) lines more k (omega (arith, length-append line (joined lines)))
    (omega arith) h.4 in
    inr (inr (
      omega (arith, length-append line (joined lines)),
      h.0,
      h.1,
      h.2,
      h.3,
      subst (λ (x : ℕ). IsFirstOfRun x (before + length line) (Some h.0) (lines ++ more) (BadLine (d + k))) next rest,
    ))

-- each of the lines is that of an item that may follow the one before
abbrev AreGood : Option Item → List (List ℕ) → Type 0
AreGood last [] = Unit {0}
AreGood last (line ∷ lines) = (i : Item) × FitsItem i × Follows last i × (line ≡ item_text i) × AreGood (Some i) lines

good_of_bad : (m : ℕ) (last : Option Item) (lines : List (List ℕ)) (k : ℕ) → m + length lines ≤ k →
    IsFirstBad m last lines k → AreGood last lines
good_of_bad m last [] k most h = tt
good_of_bad m last (line ∷ lines) k most (inl h) = absurd (omega (arith, h.0, most))
good_of_bad m last (line ∷ lines) k most (inr h) = (h.0, h.1, h.2, h.3, good_of_bad (m + 1) (Some h.0) lines k (omega (arith, most)) h.4)

good_of_items : (last : Option Item) (is : List Item) → AreInOrder last is → AreGood last (map item_text is)
good_of_items last [] h = tt
good_of_items last (i ∷ is) h = (i, h.0, h.1, refl, good_of_items (Some i) is h.2)

good_of_run : (r : Run) (bytes : List ℕ) → IsRunText r bytes → AreGood None (lines_of bytes)
good_of_run r bytes h =
    let lines : lines_of bytes ≡ map item_text (items_of r) = ap lines_of (h.text ∙ items_text r) ∙ items_lines (items_of r) in
    subst (λ (z : List (List ℕ)). AreGood None z) (sym lines) (good_of_items None (items_of r) (items_ordered r bytes h))

-- after good lines that end early, one that doesn't is the first faulty one
limit_behind : (n before : ℕ) (last : Option Item) (lines : List (List ℕ)) (line : List ℕ) → before + length (joined lines) ≤ most_audited
    → most_audited < before + length (joined lines) + length line → AreGood last lines
    → IsFirstOfRun n before last (lines ++ line ∷ []) (Limit (n + length lines))
limit_behind n before last [] line short past good = inl (omega (arith, past), ap (λ (x : ℕ). Limit x) (omega arith))
limit_behind n before last (first ∷ lines) line short past good =
    let long = length-append first (joined lines) in
    let rest = limit_behind (n + 1) (before + length first) (Some good.0) lines line (omega (arith, long))
    (omega (arith, long, past)) good.4 in
    let at : (n + 1) + length lines ≡ n + length (first ∷ lines) = omega arith in
    inr (inr (
      omega (arith, long),
      good.0,
      good.1,
      good.2,
      good.3,
      subst (λ (x : ℕ). IsFirstOfRun (n + 1) (before + length first) (Some good.0) (lines ++ line ∷ []) (Limit x)) at rest,
    ))

-- ---- the same of the bytes

joined_of : (bytes : List ℕ) → length (joined (lines_of bytes)) ≡ length bytes
joined_of bytes = ap length (lines_joined bytes)

pub run_bad : (lines before k : ℕ) (back : List ℕ) → before + length back ≤ most_audited → IsFirstBad 1 None (lines_of back) k
    → IsFirstOfRun (lines + 1) before None (lines_of back) (BadLine (lines + k))
run_bad lines before k back short h = bad_within lines 1 before None (lines_of back) k (omega (arith, joined_of back)) h

-- a cut before the last line
cut_length : (back whole last : List ℕ) (count : ℕ) → IsLastCut back whole last count → length back ≡ length whole + length last
cut_length back whole last count cut = ap length cut.parts ∙ length-append whole last

pub past_bad : (lines before k count : ℕ) (back whole last : List ℕ) → IsLastCut back whole last count → 0 < length last
    → before + length back ≡ most_audited + 1 → k ≤ count → IsFirstBad 1 None (lines_of whole) k
    → IsFirstOfRun (lines + 1) before None (lines_of back) (BadLine (lines + k))
past_bad lines before k count back whole last cut some past few h =
    let total = cut_length back whole last count cut in
    let c = cut.count in
    subst (λ (z : List (List ℕ)). IsFirstOfRun (lines + 1) before None z (BadLine (lines + k))) (sym cut.whole)
    (bad_before lines 1 before None (lines_of whole) (last ∷ []) k (omega (arith, joined_of whole, total, past, some))
    (omega (arith, c, few)) h)

past_limit : (lines before count : ℕ) (back whole last : List ℕ) → IsLastCut back whole last count → 0 < length last
    → before + length back ≡ most_audited + 1 → AreGood None (lines_of whole)
    → IsFirstOfRun (lines + 1) before None (lines_of back) (Limit (lines + count + 1))
past_limit lines before count back whole last cut some past good =
    let total = cut_length back whole last count cut in
    let c = cut.count in
    let at : (lines + 1) + length (lines_of whole) ≡ lines + count + 1 = omega (arith, c) in
    subst (λ (z : List (List ℕ)). IsFirstOfRun (lines + 1) before None z (Limit (lines + count + 1))) (sym cut.whole)
    (subst (λ (x : ℕ). IsFirstOfRun (lines + 1) before None (lines_of whole ++ last ∷ []) (Limit x)) at
    (limit_behind (lines + 1) before None (lines_of whole) last (omega (arith, joined_of whole, total, past, some))
    (omega (arith, joined_of whole, total, past)) good))

pub past_good : (lines before count : ℕ) (back whole last : List ℕ) (r : Run) → IsLastCut back whole last count → 0 < length last
    → before + length back ≡ most_audited + 1 → IsRunText r whole
    → IsFirstOfRun (lines + 1) before None (lines_of back) (Limit (lines + count + 1))
past_good lines before count back whole last r cut some past h =
    past_limit lines before count back whole last cut some past (good_of_run r whole h)

pub past_end : (lines before k count : ℕ) (back whole last : List ℕ) → IsLastCut back whole last count → 0 < length last
    → before + length back ≡ most_audited + 1 → count < k → IsFirstBad 1 None (lines_of whole) k
    → IsFirstOfRun (lines + 1) before None (lines_of back) (Limit (lines + count + 1))
past_end lines before k count back whole last cut some past more h =
    let c = cut.count in
    past_limit lines before count back whole last cut some past (good_of_bad 1 None (lines_of whole) k (omega (arith, c, more)) h)
