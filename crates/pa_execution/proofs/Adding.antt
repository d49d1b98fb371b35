-- What the logs of a seat sum up to, log by log.
use Rattle.std.proofs.Common.{◌≡◌, ℕ, zero, suc, ◌+◌, ◌<◌, ◌≤◌, List, [], ◌∷◌, refl, sym, ◌∙◌, ap, subst, arith, inl, inr, eqb}
use Rattle.std.specs.List.{sum_by}
use Rattle.std.proofs.lemmas.Bool.{cases_lt, cases_eq, eq-eqb, ne_eqb}
use Rattle.std.proofs.lemmas.List.Sums.{sum_by-cons}
use Rattle.pa_slot.specs.Holdings.{one}
use Rattle.pa_region.specs.declared.view.Entry.{Entry}
use Rattle.pa_region.specs.declared.view.Stake.{Stake}
use Rattle.pa_region.specs.declared.view.View.{View}
use Rattle.pa_region.specs.Views.{stake_of, logged_of}
use Rattle.pa_region.specs.Pairs.{log_among}
use Rattle.pa_region.specs.Takes.{log_of}
use Rattle.pa_region.specs.Totals.{added_to}
use Rattle.pa_region.specs.Aware.{IsAware}
use Rattle.pa_totals.specs.Settled.{added_in}
use Rattle.pa_execution.specs.Lines.{sum_over}
use Rattle.pa_execution.proofs.Gathering.{how_often, none_logged}

-- ---- sums over numbers

pub sum_same : (f g : ℕ → ℕ) (n : ℕ) → ((k : ℕ) → k < n → g k ≡ f k) → sum_over g n ≡ sum_over f n
sum_same f g zero same = refl
sum_same f g (suc n) same =
    let here = same n (omega arith) in
    let rest = sum_same f g n (λ k low. same k (omega arith)) in
    omega arith

sum_none : (f : ℕ → ℕ) (n : ℕ) → ((k : ℕ) → k < n → f k ≡ 0) → sum_over f n ≡ 0
sum_none f zero none = refl
sum_none f (suc n) none =
    let here = none n (omega arith) in
    let rest = sum_none f n (λ k low. none k (omega arith)) in
    omega arith

-- from some number on there is nothing more
sum_past : (f : ℕ → ℕ) (m n : ℕ) → m ≤ n → ((k : ℕ) → m ≤ k → f k ≡ 0) → sum_over f n ≡ sum_over f m
sum_past f m zero low none = let e : 0 ≡ m = omega arith in ap (sum_over f) e
sum_past f m (suc n) low none = elim (cases_lt n m) [
  | inl y ↦ let e : suc n ≡ m = omega arith in ap (sum_over f) e
  | inr past ↦
      let here = none n (omega arith) in
      let rest = sum_past f m n (omega arith) none in
      omega arith
]

-- one number has this much more
sum_more : (f g : ℕ → ℕ) (more m n : ℕ) → m < n → f m ≡ more + g m → ((k : ℕ) → (k ≡ m → ⊥) → f k ≡ g k) →
    sum_over f n ≡ more + sum_over g n
sum_more f g more m zero low here same = absurd (omega arith)
sum_more f g more m (suc n) low here same = elim (cases_eq m n) [
  | inl e ↦
      let rest = sum_same g f n (λ k less. same k (λ q. absurd (omega arith))) in
      let top : f n ≡ more + g n = subst (λ j. f j ≡ more + g j) e here in
      omega arith
  | inr ne ↦
      let rest = sum_more f g more m n (omega arith) here same in
      let top = same n (λ q. ne (sym q)) in
      omega arith
]

-- ---- the logs of stakes, each number once

by_log : (weight : Entry → ℕ) (ss : List Stake) (n : ℕ) → ((k : ℕ) → how_often k ss ≤ 1) → ((k : ℕ) → 0 < how_often k ss → k < n) →
    sum_by (λ (s : Stake). sum_by weight s.log) ss ≡ sum_over (λ k. sum_by weight (log_among k ss)) n
by_log weight [] n once small = sym (sum_none (λ k. 0) n (λ k low. refl))
by_log weight (s ∷ ss) n once small =
    let r = s.number in
    let c : (k : ℕ) → how_often k (s ∷ ss) ≡ one (eqb r k) + how_often k ss = λ k. sum_by-cons (λ (x : Stake). one (eqb x.number k)) s ss in
    let d = sum_by-cons (λ (x : Stake). sum_by weight x.log) s ss in
    let mine : one (eqb r r) ≡ 1 = ap one (eq-eqb r r refl) in
    let first = c r in
    let few = once r in
    let alone : how_often r ss ≡ 0 = omega arith in
    let low : r < n = small r (omega arith) in
    let again = by_log weight ss n (λ k. let o = once k in let e = c k in omega arith) (λ k has. let e = c k in small k (omega arith)) in
    let own : log_among r (s ∷ ss) ≡ s.log = rw (eq-eqb r r refl) refl in
    let here : sum_by weight (log_among r (s ∷ ss)) ≡ sum_by weight s.log + sum_by weight (log_among r ss) =
    (let a = ap (sum_by weight) own in let b = ap (sum_by weight) (none_logged r ss alone) in omega arith) in
    let sum = sum_more (λ k. sum_by weight (log_among k (s ∷ ss))) (λ k. sum_by weight (log_among k ss)) (sum_by weight s.log) r n low here
    (λ k ne. ap (sum_by weight) (other k ne)) in
    omega arith
  where
    other : (k : ℕ) → (k ≡ s.number → ⊥) → log_among k (s ∷ ss) ≡ log_among k ss
    other k ne = rw (ne_eqb s.number k (λ e. ne (sym e))) refl

-- a seat with each stake at most once, and none past the sixteenth
pub logged_by_log : (v : View) (weight : Entry → ℕ) → ((k : ℕ) → stake_of v k ≤ 1) → ((k : ℕ) → 0 < stake_of v k → k < 16) →
    logged_of v weight ≡ sum_over (λ k. sum_by weight (log_of k v)) 16
logged_by_log v weight once small = by_log weight v.stakes 16 once small

-- seats with the same stakes and logs say the same of a totals word
pub added_same : (v w : View) → IsAware v → ((k : ℕ) → stake_of w k ≡ stake_of v k) → ((k : ℕ) → log_of k w ≡ log_of k v) → (k : ℕ) →
    added_in w k ≡ added_in v k
added_same v w aware stakes logs k =
    let a = logged_by_log v (added_to k) aware.stake_once aware.stake_small in
    let b = logged_by_log w (added_to k) (λ r. let s = stakes r in let o = aware.stake_once r in omega arith)
    (λ r has. aware.stake_small r (let s = stakes r in omega arith)) in
    let c = sum_same (λ r. sum_by (added_to k) (log_of r v)) (λ r. sum_by (added_to k) (log_of r w)) 16
    (λ r low. ap (sum_by (added_to k)) (logs r)) in
    b ∙ (c ∙ sym a)

-- if no thread past the first ones has a log, a totals word is what their logs add up to
pub added_by_threads : (v : View) (threads k : ℕ) → IsAware v → threads ≤ 16 → ((r : ℕ) → threads ≤ r → log_of r v ≡ []) →
    added_in v k ≡ sum_over (λ r. sum_by (added_to k) (log_of r v)) threads
added_by_threads v threads k aware few idle =
    logged_by_log v (added_to k) aware.stake_once aware.stake_small
    ∙ sum_past (λ r. sum_by (added_to k) (log_of r v)) threads 16 few (λ r past. ap (sum_by (added_to k)) (idle r past))
