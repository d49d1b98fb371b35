-- An entry in the log of a view's least stake.
use Rattle.std.proofs.Common.{◌≡◌, ℕ, ◌+◌, ◌<◌, ◌≤◌, Bool, true, false, List, [], ◌∷◌, ◌++◌, set, refl, sym, ◌∙◌, ap, arith, inl, inr, eqb, min}
use Rattle.std.specs.Prelude.{if◌then◌else◌}
use Rattle.std.specs.List.{sum_by}
use Rattle.std.proofs.lemmas.List.Sums.{sum_by-cons, sum_by_push, sum_by-le-sum_by}
use Rattle.std.proofs.lemmas.Bool.{cases_lt}
use mathlib.Core.Option.{some}
use lib.ListN.{get_elem?}
use Rattle.pa_slot.specs.Holdings.{one}
use Rattle.pa_region.specs.declared.view.Entry.{Entry}
use Rattle.pa_region.specs.declared.view.Stake.{Stake}
use Rattle.pa_region.specs.declared.view.View.{View}
use Rattle.std.proofs.Math.Nat.{min-eq_left, min-eq_right}
use Rattle.pa_region.specs.Views.{least_stake, logged_of, logged_in}
use Rattle.pa_region.specs.Moves.{noted, changed}
use Rattle.pa_region.proofs.Adding.{one_eq, first_of, sum_set}

-- a view that has a stake has its least one
least_from : (n : ℕ) (ss : List Stake) → least_stake ss ≡ n → n < 16 → 0 < sum_by (λ (s : Stake). one (eqb s.number n)) ss
least_from n [] e h = absurd (omega arith)
least_from n (s ∷ ss) e h =
    let c = sum_by-cons (λ (x : Stake). one (eqb x.number n)) s ss in
    elim (cases_lt (least_stake ss) s.number) [
      | inl y ↦
          let least : min s.number (least_stake ss) ≡ least_stake ss = min-eq_right (omega arith) in
          let again = least_from n ss (sym least ∙ e) h in
          omega arith
      | inr m ↦
          let least : min s.number (least_stake ss) ≡ s.number = min-eq_left m in
          let here : s.number ≡ n = sym least ∙ e in
          elim (one_eq s.number n) [ inl y ↦ let z = y.0 in omega arith | inr k ↦ absurd (k.1 here) ]
    ]

-- a view that has a stake has one with the least number
pub least_there : (ss : List Stake) → least_stake ss < 16 → 0 < sum_by (λ (s : Stake). one (eqb s.number (least_stake ss))) ss
least_there ss h = least_from (least_stake ss) ss refl h

-- the logs with the entry
abbrev pub with_entry_last : Entry → Stake → Stake
with_entry_last e s = record s { log = s.log ++ e ∷ [] }

-- the logs with the entry have its weight more
pub noted_logs : (e : Entry) (ss : List Stake) (weight : Entry → ℕ) → least_stake ss < 16 →
    sum_by (λ (s : Stake). sum_by weight s.log) (noted e ss) ≡ sum_by (λ (s : Stake). sum_by weight s.log) ss + weight e
noted_logs e ss weight h =
    let first = first_of (λ (s : Stake). eqb s.number (least_stake ss)) ss (least_there ss h) in
    let c = first.1.replaced (with_entry_last e) (λ (s : Stake). sum_by weight s.log) in
    let p = sum_by_push weight first.0.log e in
    omega arith

-- an entry in the log leaves the stakes
pub noted_stakes : (e : Entry) (ss : List Stake) (k : ℕ) → least_stake ss < 16 →
    sum_by (λ (s : Stake). one (eqb s.number k)) (noted e ss) ≡ sum_by (λ (s : Stake). one (eqb s.number k)) ss
noted_stakes e ss k h =
    let first = first_of (λ (s : Stake). eqb s.number (least_stake ss)) ss (least_there ss h) in
    let c = first.1.replaced (with_entry_last e) (λ (s : Stake). one (eqb s.number k)) in
    omega arith

-- the least stake stays the least
least_changed : (test : Stake → Bool) (e : Entry) (ss : List Stake) → least_stake (changed test (with_entry_last e) ss) ≡ least_stake ss
least_changed test e [] = refl
least_changed test e (s ∷ ss) = go (test s) (least_changed test e ss)
  where
    go : (b : Bool) → least_stake (changed test (with_entry_last e) ss) ≡ least_stake ss →
        least_stake (if b then with_entry_last e s ∷ ss else s ∷ changed test (with_entry_last e) ss) ≡ least_stake (s ∷ ss)
    go true again = refl
    go false again = ap (min s.number) again

-- the least stake stays the least after an entry
pub least_noted : (e : Entry) (ss : List Stake) → least_stake (noted e ss) ≡ least_stake ss
least_noted e ss = least_changed (λ (s : Stake). eqb s.number (least_stake ss)) e ss

-- over all views, when one of them becomes w
pub logged_set : (views : List View) (i : ℕ) (v w : View) (e : Entry) → get_elem? views i ≡ some v →
    ((weight : Entry → ℕ) → logged_of w weight ≡ logged_of v weight + weight e) →
    (weight : Entry → ℕ) → logged_in (set views i w) weight ≡ logged_in views weight + weight e
logged_set views i v w e at_i more weight =
    let c = sum_set (λ u. logged_of u weight) views i v w at_i in
    let m = more weight in
    omega arith

-- greater weights make greater sums over all views
pub logged_grows : (views : List View) (f g : Entry → ℕ) → ((e : Entry) → f e ≤ g e) → logged_in views f ≤ logged_in views g
logged_grows views f g h =
    sum_by-le-sum_by (λ v. logged_of v f) (λ v. logged_of v g) views
    (λ v. sum_by-le-sum_by (λ (s : Stake). sum_by f s.log) (λ (s : Stake). sum_by g s.log) v.stakes (λ s. sum_by-le-sum_by f g s.log h))
