-- All logs of a view's least stake are the one that it has.
use Rattle.std.proofs.Common.{◌≡◌, ℕ, suc, ◌<◌, ◌≤◌, List, [], ◌∷◌, refl, ◌∙◌, ap, arith, inl, inr, eqb, ltb}
use Rattle.std.specs.List.{sum_by}
use Rattle.std.proofs.lemmas.List.Sums.{sum_by-cons}
use Rattle.std.proofs.lemmas.Bool.{cases_lt}
use Rattle.std.proofs.lemmas.Bool.Decides.{eqb_tells}
use mathlib.Core.Option.{some}
use lib.ListN.{get_elem?}
use Rattle.pa_slot.specs.Holdings.{one}
use Rattle.pa_region.specs.declared.view.Entry.{Entry}
use Rattle.pa_region.specs.declared.view.Stake.{Stake}
use Rattle.pa_region.specs.declared.view.View.{View}
use Rattle.pa_region.specs.Views.{stake_of, stakes_in, least_stake, HasStake}
use Rattle.pa_region.specs.Pairs.{amount_by, log_among, least_log, logged_of_by, logged_by}
use Rattle.pa_region.specs.Totals.{owes_as, added_as}
use Rattle.pa_region.proofs.Adding.{sum_alone, sum_pair, sum_part, one_lt}
use Rattle.pa_region.proofs.Entering.{least_there}
use Rattle.pa_region.proofs.PairSums.{by_none}

module _ {A : Type 0} where
  -- a sum that isn't 0 has a member that isn't
  pub some_member : (f : A → ℕ) (xs : List A) → 0 < sum_by f xs → (j : ℕ) × (x : A) × (get_elem? xs j ≡ some x) × (0 < f x)
  some_member f [] h = absurd (omega arith)
  some_member f (x ∷ xs) h = elim (cases_lt 0 (f x)) [
    | inl y ↦ (0, x, refl, y)
    | inr n ↦
        let c = sum_by-cons f x xs in
        let again = some_member f xs (omega arith) in
        (suc again.0, again.1, again.2, again.3)
  ]

-- one stake of a number, with its log
one_log : (amount : List Entry → ℕ) (r : ℕ) (ss : List Stake) → sum_by (λ (s : Stake). one (eqb s.number r)) ss ≡ 1 →
    sum_by (amount_by r amount) ss ≡ amount (log_among r ss)
one_log amount r [] e = absurd (omega arith)
one_log amount r (s ∷ ss) e =
    let c = sum_by-cons (λ (x : Stake). one (eqb x.number r)) s ss in
    let d = sum_by-cons (amount_by r amount) s ss in
    elim (eqb_tells s.number r) [
      | inl y ↦
          let here : one (eqb s.number r) ≡ 1 = ap one y.0 in
          let none = by_none amount r ss (omega arith) in
          let mine : amount_by r amount s ≡ amount s.log = rw y.0 refl in
          let log : amount (log_among r (s ∷ ss)) ≡ amount s.log = ap amount (rw y.0 refl) in
          omega arith
      | inr n ↦
          let here : one (eqb s.number r) ≡ 0 = ap one n.0 in
          let again = one_log amount r ss (omega arith) in
          let mine : amount_by r amount s ≡ 0 = rw n.0 refl in
          let log : amount (log_among r (s ∷ ss)) ≡ amount (log_among r ss) = ap amount (rw n.0 refl) in
          omega arith
    ]

-- no other view has the view's least stake
pub stake_alone : (views : List View) (i j : ℕ) (v u : View) → get_elem? views i ≡ some v → get_elem? views j ≡ some u → (j ≡ i → ⊥) →
    HasStake v →
    stakes_in views (least_stake v.stakes) ≡ 1 → stake_of u (least_stake v.stakes) ≡ 0
stake_alone views i j v u at_i at_j ne has once =
    let there = least_there v.stakes has in
    let pair = sum_pair (λ w. stake_of w (least_stake v.stakes)) views i j v u at_i at_j ne in
    omega arith

-- if a view has the only stake of a number, all logs of the number are in it
pub number_log : (weight : Entry → ℕ) (views : List View) (i : ℕ) (v : View) (r : ℕ) → get_elem? views i ≡ some v → stakes_in views r ≤ 1 →
    0 < stake_of v r →
    logged_by views r weight ≡ logged_of_by v r weight
number_log weight views i v r at_i once has =
    sum_alone (λ u. logged_of_by u r weight) views i v at_i
    (λ j u at_j ne. by_none (sum_by weight) r u.stakes (let pair = sum_pair (λ w. stake_of w r) views i j v u at_i at_j ne in omega arith))

-- what no log of a number passes, no log of the view's stakes of it does
pub covered_of : (views : List View) (i : ℕ) (v : View) → get_elem? views i ≡ some v → ((k : ℕ) → stakes_in views k ≡ one (ltb k 16)) →
    (r q : ℕ) →
    ((n p : ℕ) → logged_by views n (added_as p) ≤ logged_by views n (owes_as p)) →
    logged_of_by v r (added_as q) ≤ logged_of_by v r (owes_as q)
covered_of views i v at_i each r q covered = elim (cases_lt 0 (stake_of v r)) [
  | inl y ↦
      let a = number_log (added_as q) views i v r at_i once y in
      let b = number_log (owes_as q) views i v r at_i once y in
      let c = covered r q in
      omega arith
  | inr n ↦
      let a = by_none (sum_by (added_as q)) r v.stakes (omega arith) in
      omega arith
]
  where
    once : stakes_in views r ≤ 1
    once = let e = each r in elim (one_lt r 16) [ inl y ↦ let z = y.0 in omega arith | inr m ↦ let z = m.0 in omega arith ]

-- the logs of the least stake's number of a view are its own least log
pub own_log : (weight : Entry → ℕ) (views : List View) (i : ℕ) (v : View) → get_elem? views i ≡ some v → HasStake v →
    stakes_in views (least_stake v.stakes) ≡ 1 →
    logged_by views (least_stake v.stakes) weight ≡ sum_by weight (least_log v.stakes)
own_log weight views i v at_i has once =
    let there = least_there v.stakes has in
    let part = sum_part (λ w. stake_of w (least_stake v.stakes)) views i v at_i in
    sum_alone (λ u. logged_of_by u (least_stake v.stakes) weight) views i v at_i
    (λ j u at_j ne. by_none (sum_by weight) (least_stake v.stakes) u.stakes (stake_alone views i j v u at_i at_j ne has once))
    ∙ one_log (sum_by weight) (least_stake v.stakes) v.stakes (omega arith)
