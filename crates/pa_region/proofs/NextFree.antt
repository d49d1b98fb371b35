-- A first Free of a history, in logs: the next one, and which log it is in.
use Rattle.std.proofs.Common.{◌≡◌, ℕ, suc, ◌+◌, ◌<◌, ◌≤◌, Bool, true, false, List, [], ◌∷◌, length, refl, sym, ◌∙◌, ap, arith, inl, inr, eqb}
use Rattle.std.specs.Prelude.{if◌then◌else◌}
use Rattle.std.specs.List.{sum_by}
use Rattle.std.proofs.lemmas.List.Sums.{sum_by-cons, sum_by-le-sum_by}
use Rattle.std.proofs.lemmas.Bool.{cases_lt}
use Rattle.std.proofs.lemmas.Bool.Decides.{eqb_tells}
use mathlib.Core.Option.{some}
use lib.ListN.{get_elem?}
use Rattle.pa_slot.specs.declared.title.Title.{Title}
use Rattle.pa_slot.specs.declared.word.Step.{Step}
use Rattle.pa_slot.specs.declared.word.Step.TheVariants.{Issue, Copy, Reset, Free, Write}
use Rattle.pa_slot.specs.Count.{number_of}
use Rattle.pa_slot.specs.Holdings.{one}
use Rattle.pa_region.specs.declared.view.Entry.{Entry}
use Rattle.pa_region.specs.declared.view.Stake.{Stake}
use Rattle.pa_region.specs.declared.view.View.{View}
use Rattle.pa_region.specs.Views.{counted_at, counted_as, logged_of}
use Rattle.pa_region.specs.History.{Done, IsChained}
use Rattle.pa_region.specs.Contents.{up_to, word_at_number}
use Rattle.pa_region.specs.Frees.{is_free, frees_from}
use Rattle.pa_region.specs.Pairs.{amount_by, logged_of_by}
use Rattle.pa_region.specs.Waiting.{IsFreedElsewhere}
use Rattle.pa_region.specs.Tells.{IsNextFree}
use Rattle.pa_region.proofs.LogPart.{as_at, reached_number}
use Rattle.pa_region.proofs.AtNumber.{up_to_all, up_to_more, up_to_length, up_to_legal}
use Rattle.pa_region.proofs.FirstFrees.{frees_more, frees_past, frees_fewer, first_within}
use Rattle.pa_region.proofs.Standing.{logged_two, at_number, step_stands}

-- the Frees from a number on are one more than those after it if and only if the step there is a Free
frees_at : (d : Done) (history : List Done) (n : ℕ) → n < length history → up_to (n + 1) history ≡ d ∷ up_to n history →
    frees_from n history ≡ frees_from (n + 1) history + one (is_free d.step)
frees_at d [] n below at_n = absurd (omega arith)
frees_at d (x ∷ older) n below at_n = elim (cases_lt n (length older)) [
  | inl y ↦
      let again = frees_at d older n y (sym (up_to_more (n + 1) x older (omega arith)) ∙
      (at_n ∙ ap (λ hs. d ∷ hs) (up_to_more n x older (omega arith)))) in
      let p = frees_more n x older (omega arith) in
      let q = frees_more (n + 1) x older (omega arith) in
      omega arith
  | inr m ↦
      let same : n ≡ length older = omega arith in
      let here : (x ∷ older) ≡ d ∷ up_to n (x ∷ older) = sym (up_to_all (n + 1) (x ∷ older) (omega arith)) ∙ at_n in
      let is : x ≡ d = head_is x d older (up_to n (x ∷ older)) here in
      let p = frees_more n x older (omega arith) in
      let z = frees_past n older (omega arith) in
      let w = frees_past (n + 1) (x ∷ older) (omega arith) in
      let e : one (is_free x.step) ≡ one (is_free d.step) = ap (λ (y : Done). one (is_free y.step)) is in
      omega arith
]
  where
    head_is : (a b : Done) (older newer : List Done) → (a ∷ older) ≡ b ∷ newer → a ≡ b
    head_is a b older newer e = cc

-- a step that counts as a Free is one
free_is : (step : Step) → one (is_free step) ≡ 1 → step ≡ Free
free_is Issue e = absurd (omega arith)
free_is Copy e = absurd (omega arith)
free_is Reset e = absurd (omega arith)
free_is Free e = refl
free_is Write e = absurd (omega arith)

-- an amount of all logs that those of one number haven't is in a log of another
other_log : (f : List Entry → ℕ) (r : ℕ) (ss : List Stake) → sum_by (amount_by r f) ss ≡ 0 → 0 < sum_by (λ (s : Stake). f s.log) ss →
    (j : ℕ) × (s : Stake) × (get_elem? ss j ≡ some s) × (s.number ≡ r → ⊥) × (0 < f s.log)
other_log f r [] none some_log = absurd (omega arith)
other_log f r (s ∷ ss) none some_log =
    let c = sum_by-cons (amount_by r f) s ss in
    let d = sum_by-cons (λ (x : Stake). f x.log) s ss in
    elim (cases_lt 0 (f s.log)) [
      | inl y ↦ elim (eqb_tells s.number r) [
        | inl same ↦ let e : amount_by r f s ≡ f s.log = rw same.0 refl in absurd (omega arith)
        | inr other ↦ (0, s, refl, other.1, y)
      ]
      | inr n ↦ let again = other_log f r ss (omega arith) (omega arith) in (suc again.0, again.1, again.2, again.3, again.4)
    ]

-- a smaller amount of the logs of one number
less_by : (f g : Entry → ℕ) (r : ℕ) (ss : List Stake) → ((e : Entry) → f e ≤ g e) →
    sum_by (amount_by r (sum_by f)) ss ≤ sum_by (amount_by r (sum_by g)) ss
less_by f g r ss less =
    sum_by-le-sum_by (amount_by r (sum_by f)) (amount_by r (sum_by g)) ss (λ s. go (eqb s.number r) s)
  where
    go : (b : Bool) (s : Stake) → (if b then sum_by f s.log else 0) ≤ (if b then sum_by g s.log else 0)
    go true s = sum_by-le-sum_by f g s.log less
    go false s = omega arith

pub others_free : (v : View) (t : Title) (history : List Done) (r k : ℕ) → IsChained (logged_of v) t history →
    IsFreedElsewhere (logged_of_by v) history t r k →
    (j : ℕ) × (s : Stake) × (word : ℕ) × (get_elem? v.stakes j ≡ some s) × (s.number ≡ r → ⊥) × IsNextFree v t k s word
others_free v t history r k chain freed =
    let n = freed.0 in
    let first = freed.1 in
    let below = first_within history k n first in
    let there = at_number (logged_of v) t history n chain.steps below in
    let d = there.0 in
    let word = word_at_number n history in
    let number : number_of word ≡ n = reached_number (up_to n history) (up_to_legal n history chain.legal) ∙
    up_to_length n history (omega arith) in
    let at_n = frees_at d history n below there.1.stands in
    let here = first.here in
    let free = free_is d.step (omega arith) in
    let logged : logged_of v (counted_as t Free word d.value) ≡ 1 = ap (λ p. logged_of v (counted_as t p word d.value)) (sym free) ∙
    there.1.logged in
    let less = less_by (counted_as t Free word d.value) (counted_at t (number_of word)) r v.stakes (as_at t Free word d.value) in
    let none_at : logged_of_by v r (counted_at t (number_of word)) ≡ 0 = ap (λ m. logged_of_by v r (counted_at t m)) number ∙ freed.2 in
    let other = other_log (sum_by (counted_as t Free word d.value)) r v.stakes (omega arith) (omega arith) in
    let behind = first.behind in
    let before = first.none_before in (
      other.0,
      other.1,
      word,
      other.2,
      other.3,
      record {
        behind = omega arith;
        logged = (d.value, other.4);
        first = λ found value some_free low.
            let stands = step_stands (logged_of v) t history Free found value (logged_two v) chain some_free in
            let one_there = frees_at (record { step = Free; value = value }) history (number_of found) stands.0 stands.2 in
            elim (cases_lt (number_of found) n) [
              | inl sooner ↦
                  let a = frees_fewer k (number_of found) history low in
                  let b = frees_fewer (number_of found + 1) n history (omega arith) in
                  absurd (omega arith)
              | inr later ↦ omega arith
            ];
      },
    )
