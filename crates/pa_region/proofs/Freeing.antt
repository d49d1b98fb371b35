-- That reads gave what they should stays true over a counted step: a Free turns the poisoned Own into the first Free.
use Rattle.std.proofs.Common.{◌≡◌, ℕ, ◌+◌, ◌<◌, ◌≤◌, Bool, true, false, ◌&&◌, List, ◌∷◌, length, refl, sym, ◌∙◌, ap, subst, arith, ◌⊎◌, inl, inr, eqb}
use Rattle.std.specs.Prelude.{if◌then◌else◌}
use Rattle.std.proofs.lemmas.Bool.{cases_Bool, ne_eqb}
use Rattle.pa_slot.specs.declared.title.Title.{Title}
use Rattle.pa_slot.specs.declared.word.Step.{Step}
use Rattle.pa_slot.specs.Count.{number_of}
use Rattle.pa_slot.specs.Titles.{same_title}
use Rattle.pa_slot.specs.Holdings.{one}
use Rattle.pa_slot.proofs.Same.{title_tells, title_self}
use Rattle.pa_region.specs.declared.view.Entry.{Entry}
use Rattle.pa_region.specs.declared.view.Entry.TheVariants.{Counted}
use Rattle.pa_region.specs.Views.{counted_at, looked_at}
use Rattle.pa_region.specs.History.{Done, IsChained}
use Rattle.pa_region.specs.Contents.{content_at_number}
use Rattle.pa_region.specs.Frees.{is_free}
use Rattle.pa_region.specs.Waiting.{gave_no_poison, quiet_read, IsFreeing, AreRight}
use Rattle.pa_region.proofs.Adding.{one_lt}
use Rattle.pa_region.proofs.LogPart.{history_by}
use Rattle.pa_region.proofs.AtNumber.{word_found, content_within}
use Rattle.pa_region.proofs.FirstFrees.{frees_more, first_within, first_stays, first_now}
use Rattle.pa_region.proofs.Readings.{freeing_same}

-- a counted step that found another number
not_at : (t u : Title) (step : Step) (word value n : ℕ) → (number_of word ≡ n → ⊥) → counted_at u n (Counted t step word value) ≡ 0
not_at t u step word value n other = go (same_title t u) (eqb (number_of word) n) (ne_eqb (number_of word) n other)
  where
    go : (a b : Bool) → b ≡ false → one (a && b) ≡ 0
    go true b e = ap one e
    go false b e = refl

-- a counted step on another title weighs nothing
not_on : (t u : Title) (step : Step) (word value n : ℕ) → same_title t u ≡ false → counted_at u n (Counted t step word value) ≡ 0
not_on t u step word value n other = rw other refl

-- a number that a look found is within the title's history
pub look_within : (logs : (Entry → ℕ) → ℕ) (history : List Done) (t : Title) (found : ℕ) → IsChained logs t history →
    0 < logs (looked_at t found) →
    number_of found ≤ length history
look_within logs history t found chain looked = (word_found found history chain.legal (chain.looks found looked)).0

-- What a counted step does to logs and to poisoned Owns: its entry is in a log of this number alone. A poisoned Own stays
-- one, unless the step is a Free of it, and then the log isn't one of those that the Own was apart from.
pub record IsCountedBy (t : Title) (step : Step) (value word least : ℕ) (logs_by after_by : ℕ → (Entry → ℕ) → ℕ)
    (poisoned later : Title → ℕ → ℕ) : Type 0 where
  pub entry : (r : ℕ) (weight : Entry → ℕ) →
      after_by r weight ≡ logs_by r weight + (if eqb least r then weight (Counted t step word value) else 0)
  pub owns : (u : Title) (r : ℕ) → 0 < poisoned u r →
      ((t ≡ u → is_free step ≡ false) × (0 < later u r)) ⊎ ((t ≡ u) × (is_free step ≡ true) × (least ≡ r → ⊥))

-- an entry of another number, or of another title, is none at this one
entry_else : (r n : ℕ) (t u : Title) (step : Step) (value word least : ℕ) (logs_by after_by : ℕ → (Entry → ℕ) → ℕ) →
    ((weight : Entry → ℕ) → after_by r weight ≡ logs_by r weight + (if eqb least r then weight (Counted t step word value) else 0)) →
    counted_at u n (Counted t step word value) ≡ 0 → after_by r (counted_at u n) ≡ logs_by r (counted_at u n)
entry_else r n t u step value word least logs_by after_by entry none =
    let e = entry (counted_at u n) in
    elim (cases_Bool (eqb least r)) [
      | inl y ↦ let f = rw y at e in omega arith
      | inr n ↦ let f = rw n at e in omega arith
    ]

-- the reason at the title of the step
freeing_here : (t : Title) (step : Step) (value word least : ℕ) (logs_by after_by : ℕ → (Entry → ℕ) → ℕ) (poisoned later : Title → ℕ → ℕ)
    (history : List Done) (r k : ℕ) →
    IsCountedBy t step value word least logs_by after_by poisoned later → number_of word ≡ length history → k ≤ length history →
    logs_by r (counted_at t (length history)) ≡ 0 →
    IsFreeing logs_by poisoned history t r k → IsFreeing after_by later (record { step = step; value = value } ∷ history) t r k
freeing_here t step value word least logs_by after_by poisoned later history r k by at_end within none (inl f) =
    let inside = first_within history k f.0 f.1 in
    inl (
      f.0,
      first_stays (record { step = step; value = value }) history k f.0 f.1,
      entry_else r f.0 t t step value word least logs_by after_by (by.entry r) (not_at t t step word value f.0 (λ e. omega arith)) ∙ f.2,
    )
freeing_here t step value word least logs_by after_by poisoned later history r k by at_end within none (inr f) =
    elim (by.owns t r f.1) [
      | inl y ↦
          let more = frees_more k (record { step = step; value = value }) history within in
          let z : one (is_free step) ≡ 0 = ap one (y.0 refl) in
          let was = f.0 in
          inr (omega arith, y.1)
      | inr n ↦
          let e = by.entry r (counted_at t (length history)) in
          let other : eqb least r ≡ false = ne_eqb least r n.2 in
          let same = rw other at e in
          inl (length history, first_now (record { step = step; value = value }) history k within f.0 n.1, omega arith)
    ]

-- the reason at any title
freeing_counted : (t : Title) (step : Step) (value word least : ℕ) (logs_by after_by : ℕ → (Entry → ℕ) → ℕ) (poisoned later : Title → ℕ → ℕ)
    (history : Title → List Done)
    (u : Title) (r k : ℕ) → IsCountedBy t step value word least logs_by after_by poisoned later → number_of word ≡ length (history t) →
    k ≤ length (history u) →
    logs_by r (counted_at t (length (history t))) ≡ 0 →
    IsFreeing logs_by poisoned (history u) u r k → IsFreeing after_by later (history_by step t value history u) u r k
freeing_counted t step value word least logs_by after_by poisoned later history u r k by at_end within none f = elim (title_tells t u) [
  | inl y ↦ subst (λ (x : Title). k ≤ length (history x) → IsFreeing logs_by poisoned (history x) x r k →
      IsFreeing after_by later (history_by step t value history x) x r k) y.1
      (λ inside g. rw (title_self t)
      (freeing_here t step value word least logs_by after_by poisoned later (history t) r k by at_end inside none g)) within f
  | inr n ↦ rw n.0 (freeing_same logs_by after_by poisoned later (history u) u r k
      (λ m. entry_else r m t u step value word least logs_by after_by (by.entry r) (not_on t u step word value m n.0))
      (λ some_own. elim (by.owns u r some_own) [ inl y ↦ y.1 | inr z ↦ absurd (n.1 z.0) ]) f)
]

-- the content at a number that a look found stays
content_counted : (t : Title) (step : Step) (value : ℕ) (history : Title → List Done) (u : Title) (k : ℕ) → k ≤ length (history u) →
    content_at_number k (history_by step t value history u) ≡ content_at_number k (history u)
content_counted t step value history u k within = elim (title_tells t u) [
  | inl y ↦ rw y.0 (content_within k (record { step = step; value = value }) (history u) within)
  | inr n ↦ rw n.0 refl
]

-- reads that were right stay right over a counted step
pub right_counted : (t : Title) (step : Step) (value word least : ℕ) (history : Title → List Done) (pairs after : (Entry → Entry → ℕ) → ℕ)
    (pairs_by after_by : ℕ → (Entry → Entry → ℕ) → ℕ)
    (logs : (Entry → ℕ) → ℕ) (logs_by logs_after : ℕ → (Entry → ℕ) → ℕ) (poisoned later : Title → ℕ → ℕ) →
    AreRight history pairs pairs_by logs_by poisoned →
    ((u : Title) → IsChained logs u (history u)) → number_of word ≡ length (history t) →
    ((own : Bool) (u : Title) (found value : ℕ) → pairs (quiet_read own u found value) ≤ logs (looked_at u found)) →
    ((r : ℕ) (weight : Entry → Entry → ℕ) → pairs_by r weight ≤ pairs weight) →
    ((r : ℕ) (weight : Entry → ℕ) → logs_by r weight ≤ logs weight) →
    (after gave_no_poison ≡ pairs gave_no_poison) →
    ((own : Bool) (u : Title) (found value : ℕ) → after (quiet_read own u found value) ≡ pairs (quiet_read own u found value)) →
    ((r : ℕ) (own : Bool) (u : Title) (found value : ℕ) →
    after_by r (quiet_read own u found value) ≡ pairs_by r (quiet_read own u found value)) →
    IsCountedBy t step value word least logs_by logs_after poisoned later →
    AreRight (history_by step t value history) after after_by logs_after later
right_counted t step value word least history pairs after pairs_by after_by logs logs_by logs_after poisoned later a chain at_end looked
    by_within logs_within gave quiet quiet_by by = record {
      freed = gave ∙ a.freed;
      own = λ u found written set some_pair.
          let z = quiet true u found written in
          let l = looked true u found written in
          let within = look_within logs (history u) u found (chain u) (omega arith) in
          a.own u found written set (omega arith) ∙ sym (content_counted t step value history u (number_of found) within);
      ref = λ r u found written set some_pair.
          let z = quiet_by r false u found written in
          let l = looked false u found written in
          let m = by_within r (quiet_read false u found written) in
          let within = look_within logs (history u) u found (chain u) (omega arith) in
          elim (a.ref r u found written set (omega arith)) [
            | inl y ↦ inl (y ∙ sym (content_counted t step value history u (number_of found) within))
            | inr f ↦ inr (
              f.0,
              freeing_counted t step value word least logs_by logs_after poisoned later history u r (number_of found) by at_end within
                  (none_yet r) f.1,
            )
          ];
    }
  where
    none_yet : (r : ℕ) → logs_by r (counted_at t (length (history t))) ≡ 0
    none_yet r =
        let n = (chain t).numbers (length (history t)) in
        let w = logs_within r (counted_at t (length (history t))) in
        elim (one_lt (length (history t)) (length (history t)))
        [ inl y ↦ let b = y.1 in absurd (omega arith) | inr z ↦ let b = z.0 in omega arith ]
