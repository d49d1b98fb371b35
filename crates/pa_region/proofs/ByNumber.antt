-- Sums over logs, added up by the 16 stake numbers.
use Rattle.std.proofs.Common.{◌≡◌, ℕ, zero, suc, ◌+◌, ◌<◌, ◌≤◌, List, [], ◌∷◌, refl, arith, inl, inr, eqb, ltb}
use Rattle.std.specs.List.{sum_by}
use Rattle.std.proofs.lemmas.List.Sums.{sum_by-cons}
use Rattle.std.proofs.lemmas.Bool.{cases_lt}
use Rattle.std.proofs.lemmas.Bool.Decides.{eqb_tells}
use Rattle.pa_slot.specs.Holdings.{one}
use Rattle.pa_region.specs.declared.view.Entry.{Entry}
use Rattle.pa_region.specs.declared.view.Stake.{Stake}
use Rattle.pa_region.specs.declared.view.View.{View}
use Rattle.pa_region.specs.Views.{stake_of, stakes_in, logged_of, logged_in}
use Rattle.pa_region.specs.Pairs.{amount_by, logged_of_by, logged_by}
use Rattle.pa_region.proofs.Adding.{one_lt, one_eq}

-- the numbers below n, each with its amount, added up
abbrev up_to : ℕ → (ℕ → ℕ) → ℕ
up_to zero f = 0
up_to (suc n) f = up_to n f + f n

up_most : (n : ℕ) (f g : ℕ → ℕ) → ((r : ℕ) → f r ≤ g r) → up_to n f ≤ up_to n g
up_most zero f g h = omega arith
up_most (suc n) f g h = let a = up_most n f g h in let b = h n in omega arith

up_sum : (n : ℕ) (f g h : ℕ → ℕ) → ((r : ℕ) → h r ≡ f r + g r) → up_to n h ≡ up_to n f + up_to n g
up_sum zero f g h e = refl
up_sum (suc n) f g h e = let a = up_sum n f g h e in let b = e n in omega arith

up_none : (n : ℕ) (f : ℕ → ℕ) → ((r : ℕ) → r < n → f r ≡ 0) → up_to n f ≡ 0
up_none zero f e = refl
up_none (suc n) f e = let a = up_none n f (λ r small. e r (omega arith)) in let b = e n (omega arith) in omega arith

-- an amount that one number alone has
up_one : (n m : ℕ) (f : ℕ → ℕ) → m < n → ((r : ℕ) → (m ≡ r → ⊥) → f r ≡ 0) → up_to n f ≡ f m
up_one zero m f small e = absurd (omega arith)
up_one (suc n) m f small e = elim (cases_lt m n) [
  | inl y ↦ let a = up_one n m f y e in let b = e n (λ q. omega arith) in omega arith
  | inr y ↦
      let a = up_none n f (λ r less. e r (λ q. omega arith)) in
      let same : m ≡ n = omega arith in
      rw same (omega arith)
]

-- one stake's amount
amount_one : (amount : List Entry → ℕ) (n : ℕ) (s : Stake) → s.number < n → up_to n (λ r. amount_by r amount s) ≡ amount s.log
amount_one amount n s small =
    let e = up_one n s.number (λ r. amount_by r amount s) small
    (λ r ne. elim (eqb_tells s.number r) [ inl y ↦ absurd (ne y.1) | inr m ↦ rw m.0 refl ]) in
    let here : amount_by s.number amount s ≡ amount s.log =
    elim (eqb_tells s.number s.number) [ inl y ↦ rw y.0 refl | inr m ↦ absurd (m.1 refl) ] in
    omega arith

-- the amounts by number are those of all stakes together, if each number is below n
amounts : (amount : List Entry → ℕ) (n : ℕ) (ss : List Stake) → ((k : ℕ) → n ≤ k → sum_by (λ (s : Stake). one (eqb s.number k)) ss ≡ 0) →
    up_to n (λ r. sum_by (amount_by r amount) ss) ≡ sum_by (λ (s : Stake). amount s.log) ss
amounts amount n [] none = up_none n (λ r. 0) (λ r small. refl)
amounts amount n (s ∷ ss) none =
    let again = amounts amount n ss (λ k big. let z = none k big in let c = sum_by-cons (λ (x : Stake). one (eqb x.number k)) s ss in
    omega arith) in
    let here = amount_one amount n s small in
    let split = up_sum n (λ r. amount_by r amount s) (λ r. sum_by (amount_by r amount) ss) (λ r. sum_by (amount_by r amount) (s ∷ ss))
    (λ r. sum_by-cons (amount_by r amount) s ss) in
    let c = sum_by-cons (λ (x : Stake). amount x.log) s ss in
    omega arith
  where
    small : s.number < n
    small = elim (cases_lt s.number n) [
      | inl y ↦ y
      | inr y ↦
          let z = none s.number y in
          let c = sum_by-cons (λ (x : Stake). one (eqb x.number s.number)) s ss in
          elim (one_eq s.number s.number) [ inl p ↦ let q = p.0 in absurd (omega arith) | inr p ↦ absurd (p.1 refl) ]
    ]

-- over all views
all_amounts : (weight : Entry → ℕ) (n : ℕ) (views : List View) → ((k : ℕ) → n ≤ k → stakes_in views k ≡ 0) →
    up_to n (λ r. logged_by views r weight) ≡ logged_in views weight
all_amounts weight n [] none = up_none n (λ r. 0) (λ r small. refl)
all_amounts weight n (v ∷ vs) none =
    let c = λ (k : ℕ). sum_by-cons (λ u. stake_of u k) v vs in
    let again = all_amounts weight n vs (λ k big. let z = none k big in let d = c k in omega arith) in
    let here = amounts (sum_by weight) n v.stakes (λ k big. let z = none k big in let d = c k in omega arith) in
    let split = up_sum n (λ r. logged_of_by v r weight) (λ r. logged_by vs r weight) (λ r. logged_by (v ∷ vs) r weight)
    (λ r. sum_by-cons (λ u. logged_of_by u r weight) v vs) in
    let d = sum_by-cons (λ u. logged_of u weight) v vs in
    omega arith

-- what is so of each stake number is so of all
pub all_most : (views : List View) (f g : Entry → ℕ) → ((k : ℕ) → stakes_in views k ≡ one (ltb k 16)) →
    ((r : ℕ) → logged_by views r f ≤ logged_by views r g) → logged_in views f ≤ logged_in views g
all_most views f g each most =
    let none : (k : ℕ) → 16 ≤ k → stakes_in views k ≡ 0 = λ k big. let e = each k in
    elim (one_lt k 16) [ inl y ↦ let z = y.1 in absurd (omega arith) | inr m ↦ let z = m.0 in omega arith ] in
    let a = all_amounts f 16 views none in
    let b = all_amounts g 16 views none in
    let m = up_most 16 (λ r. logged_by views r f) (λ r. logged_by views r g) most in
    omega arith
