-- Which stakes a seat has, at run time and in its view.
use Rattle.std.proofs.Common.{◌≡◌, ℕ, ◌+◌, ◌<◌, ◌≤◌, Bool, true, false, ◌&&◌, ◌||◌, List, [], ◌∷◌, replicate, refl, sym, ◌∙◌, ap, arith, inl, inr, eqb, ltb}
use Rattle.std.specs.Prelude.{not, cond, slice_index_or, if◌then◌else◌}
use Rattle.std.specs.List.{sum_by, filter}
use Rattle.std.proofs.lemmas.List.{get_or-replicate}
use Rattle.std.proofs.lemmas.List.Sums.{sum_by-cons, sum_by-append}
use Rattle.std.proofs.lemmas.Bool.{cases_lt, lt-ltb, le-ltb, true≢false}
use Rattle.pa_slot.specs.Holdings.{one}
use Rattle.pa_region.specs.declared.view.Stake.{Stake}
use Rattle.pa_region.specs.declared.view.View.{View}
use Rattle.pa_region.specs.Views.{stake_of, least_stake, HasStake}
use Rattle.pa_region.specs.Start.{stakes_from, first_view}
use Rattle.pa_region.specs.Hands.{Parcel, left_after, given_after, united}
use Rattle.pa_region.specs.Marks.{AreStakes}
use Rattle.pa_region.proofs.Adding.{one_eq}
use Rattle.pa_region.proofs.Entering.{least_there}
use Rattle.pa_region.proofs.FirstLists.{stake_count}

-- the view w has the stakes that v has
abbrev pub SameStakes : View → View → Type 0
SameStakes v w = (k : ℕ) → stake_of w k ≡ stake_of v k

-- a seat with the same stakes has the same of the 16 numbers
pub stakes_kept : (has : List Bool) (v w : View) → SameStakes v w → AreStakes has v → AreStakes has w
stakes_kept has v w same s k below = s k below ∙ ap (ltb 0) (sym (same k))

-- equal stakes
pub stakes_equal : (v w : View) → w.stakes ≡ v.stakes → SameStakes v w
stakes_equal v w e k = ap (λ ss. sum_by (λ (s : Stake). one (eqb s.number k)) ss) e

-- how many times a number is among those that pass a test on numbers
pub filter_number : (test : ℕ → Bool) (k : ℕ) (ss : List Stake) →
    sum_by (λ (s : Stake). one (eqb s.number k))
    (filter (λ (s : Stake). test s.number) ss) ≡ (if test k then sum_by (λ (s : Stake). one (eqb s.number k)) ss else 0)
filter_number test k [] = nothing (test k)
  where
    nothing : (b : Bool) → sum_by (λ (s : Stake). one (eqb s.number k))
        [] ≡ (if b then sum_by (λ (s : Stake). one (eqb s.number k)) [] else 0)
    nothing true = refl
    nothing false = refl
filter_number test k (s ∷ ss) =
    let again = filter_number test k ss in
    let c = sum_by-cons (λ (s : Stake). one (eqb s.number k)) s ss in
    let d = sum_by-cons (λ (s : Stake). one (eqb s.number k)) s (filter (λ (s : Stake). test s.number) ss) in
    elim (one_eq s.number k) [
      | inl y ↦
          let y0 = y.0 in
          here (test s.number) (test k) (ap test y.1) again (omega arith) (omega arith)
      | inr n ↦
          let n0 = n.0 in
          other (test s.number) (test k) again (omega arith) (omega arith)
    ]
  where
    here : (a b : Bool) → a ≡ b →
        sum_by (λ (s : Stake). one (eqb s.number k))
        (filter (λ (s : Stake). test s.number) ss) ≡ (if b then sum_by (λ (s : Stake). one (eqb s.number k)) ss else 0) →
        sum_by (λ (s : Stake). one (eqb s.number k)) (s ∷ ss) ≡ 1 + sum_by (λ (s : Stake). one (eqb s.number k)) ss →
        sum_by (λ (s : Stake). one (eqb s.number k)) (s ∷ filter (λ (s : Stake). test s.number) ss) ≡ 1 + sum_by
        (λ (s : Stake). one (eqb s.number k)) (filter (λ (s : Stake). test s.number) ss) →
        sum_by (λ (s : Stake). one (eqb s.number k))
        (cond a (s ∷ filter (λ (s : Stake). test s.number) ss) (filter (λ (s : Stake). test s.number) ss))
        ≡ (if b then sum_by (λ (s : Stake). one (eqb s.number k)) (s ∷ ss) else 0)
    here true true e again c d = omega arith
    here true false e again c d = absurd (true≢false e)
    here false true e again c d = absurd (true≢false (sym e))
    here false false e again c d = again

    other : (a b : Bool) →
        sum_by (λ (s : Stake). one (eqb s.number k))
        (filter (λ (s : Stake). test s.number) ss) ≡ (if b then sum_by (λ (s : Stake). one (eqb s.number k)) ss else 0) →
        sum_by (λ (s : Stake). one (eqb s.number k)) (s ∷ ss) ≡ sum_by (λ (s : Stake). one (eqb s.number k)) ss →
        sum_by (λ (s : Stake). one (eqb s.number k)) (s ∷ filter (λ (s : Stake). test s.number) ss) ≡ sum_by
        (λ (s : Stake). one (eqb s.number k)) (filter (λ (s : Stake). test s.number) ss) →
        sum_by (λ (s : Stake). one (eqb s.number k))
        (cond a (s ∷ filter (λ (s : Stake). test s.number) ss) (filter (λ (s : Stake). test s.number) ss))
        ≡ (if b then sum_by (λ (s : Stake). one (eqb s.number k)) (s ∷ ss) else 0)
    other true true again c d = omega arith
    other true false again c d = omega arith
    other false true again c d = omega arith
    other false false again c d = again

-- tests of numbers as they are put together
test_if : (b : Bool) (n : ℕ) → ltb 0 (if b then n else 0) ≡ (ltb 0 n && b)
test_if true n = elim (cases_lt 0 n) [ inl y ↦ rw (lt-ltb 0 n y) refl | inr m ↦ rw (le-ltb 0 n m) refl ]
test_if false n = elim (cases_lt 0 n) [ inl y ↦ rw (lt-ltb 0 n y) refl | inr m ↦ rw (le-ltb 0 n m) refl ]

test_sum : (m n : ℕ) → ltb 0 (m + n) ≡ (ltb 0 m || ltb 0 n)
test_sum m n = elim (cases_lt 0 m) [
  | inl y ↦ rw (lt-ltb 0 m y) (lt-ltb 0 (m + n) (omega arith))
  | inr k ↦ let z : m + n ≡ n = omega arith in rw (le-ltb 0 m k, z) refl
]

-- after a hand the giver has the stakes that weren't marked, and the note those that were
pub left_stakes : (p : Parcel) (v : View) (has now : List Bool) → AreStakes has v →
    ((k : ℕ) → k < 16 → slice_index_or now k false ≡ (slice_index_or has k false && not (p.stakes k))) → AreStakes now (left_after p v)
left_stakes p v has now s e k below =
    e k below ∙ (ap (λ b. b && not (p.stakes k)) (s k below) ∙
    (sym (test_if (not (p.stakes k)) (stake_of v k)) ∙ ap (ltb 0) (sym (filter_number (λ n. not (p.stakes n)) k v.stakes))))

pub given_stakes : (p : Parcel) (v : View) (has now : List Bool) → AreStakes has v →
    ((k : ℕ) → k < 16 → slice_index_or now k false ≡ (slice_index_or has k false && p.stakes k)) → AreStakes now (given_after p v)
given_stakes p v has now s e k below =
    e k below ∙ (ap (λ b. b && p.stakes k) (s k below) ∙
    (sym (test_if (p.stakes k) (stake_of v k)) ∙ ap (ltb 0) (sym (filter_number p.stakes k v.stakes))))

-- after a join the seat has the stakes of both
pub both_stakes : (v w : View) (has others now : List Bool) → AreStakes has v → AreStakes others w →
    ((k : ℕ) → k < 16 → slice_index_or now k false ≡ (slice_index_or has k false || slice_index_or others k false)) →
    AreStakes now (united v w)
both_stakes v w has others now s t e k below =
    e k below ∙ (ap (λ b. b || slice_index_or others k false) (s k below) ∙ (ap (λ b. ltb 0 (stake_of v k) || b) (t k below)
    ∙ (sym (test_sum (stake_of v k) (stake_of w k)) ∙
    ap (ltb 0) (sym (sum_by-append (λ (s : Stake). one (eqb s.number k)) v.stakes w.stakes)))))

-- the first seat has all
pub first_stakes : (words budget : ℕ) → AreStakes (replicate 16 true) (first_view words budget)
first_stakes words budget k below = get_or-replicate 16 k true false below ∙ sym (elim (stake_count 0 16 k) [
  | inl y ↦ let z = y.2 in lt-ltb 0 (sum_by (λ (s : Stake). one (eqb s.number k)) (stakes_from 0 16)) (omega arith)
  | inr n ↦ absurd (n.0 (omega arith, omega arith))
])

-- the least stake isn't above one that is there
pub least_below : (ss : List Stake) (r : ℕ) → 0 < sum_by (λ (s : Stake). one (eqb s.number r)) ss → least_stake ss ≤ r
least_below [] r h = absurd (omega arith)
least_below (s ∷ ss) r h =
    let c = sum_by-cons (λ (x : Stake). one (eqb x.number r)) s ss in
    elim (one_eq s.number r) [
      | inl y ↦ let e = y.1 in omega arith
      | inr n ↦ let z = n.0 in let again = least_below ss r (omega arith) in omega arith
    ]

-- a test that is passed, or not
test_tells : (b : Bool) (n : ℕ) → b ≡ ltb 0 n → ((b ≡ true → 0 < n) × (b ≡ false → n ≡ 0))
test_tells b n e = elim (cases_lt 0 n) [
  | inl y ↦ (λ t. y, λ f. absurd (true≢false (sym (e ∙ lt-ltb 0 n y) ∙ f)))
  | inr m ↦ (λ t. absurd (true≢false (sym t ∙ (e ∙ le-ltb 0 n m))), λ f. omega arith)
]

-- the first number at which the seat has a stake is that of its least one
pub least_is : (has : List Bool) (v : View) (r : ℕ) → AreStakes has v → HasStake v → r ≤ 16 →
    ((k : ℕ) → k < r → slice_index_or has k false ≡ false) →
    (r < 16 → slice_index_or has r false ≡ true) → r ≡ least_stake v.stakes
least_is has v r s some_stake few none there =
    let l = least_there v.stakes some_stake in
    elim (cases_lt (least_stake v.stakes) r) [
      | inl y ↦
          let z = (test_tells (slice_index_or has (least_stake v.stakes) false) (stake_of v (least_stake v.stakes))
          (s (least_stake v.stakes) some_stake)).1 (none (least_stake v.stakes) y) in
          absurd (omega arith)
      | inr m ↦
          let here : r < 16 = omega arith in
          let z = (test_tells (slice_index_or has r false) (stake_of v r) (s r here)).0 (there here) in
          let low = least_below v.stakes r z in
          omega arith
    ]
