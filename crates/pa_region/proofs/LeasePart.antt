-- Leases that are handed over.
use Rattle.std.proofs.Common.{◌≡◌, ℕ, zero, suc, ◌+◌, ◌-◌, ◌<◌, ◌≤◌, List, [], ◌∷◌, refl, ap, arith, ◌⊎◌, inl, inr, eqb, leb}
use Rattle.std.specs.List.{sum_by}
use Rattle.std.proofs.lemmas.List.Sums.{sum_by-cons, sum_by-append}
use Rattle.std.proofs.lemmas.Bool.{cases_lt, lt-ltb, le-ltb, le-leb, lt-leb, eqb-true}
use Rattle.pa_slot.specs.Holdings.{one}
use Rattle.pa_region.specs.declared.view.Stake.{Stake}
use Rattle.pa_region.specs.declared.view.Leases.{Leases}
use Rattle.pa_region.specs.Start.{stakes_from}
use Rattle.pa_region.specs.Hands.{numbers_from, out_of, lease_in, lease_out, leases_out, HasLeases}
use Rattle.pa_region.proofs.Adding.{one_eq, first_of}
use Rattle.pa_region.proofs.FirstLists.{stake_count}

-- whether a is at most b, as a number and as a fact
one_le : (a b : ℕ) → ((one (leb a b) ≡ 1) × (a ≤ b)) ⊎ ((one (leb a b) ≡ 0) × (b < a))
one_le a b = elim (cases_lt b a) [ inl y ↦ inr (ap one (lt-leb a b y), y) | inr n ↦ inl (ap one (le-leb a b n), n) ]

-- numbers in a row are counted as stakes in a row are
number_count : (from count k : ℕ) →
    sum_by (λ x. one (eqb x k)) (numbers_from from count) ≡ sum_by (λ (s : Stake). one (eqb s.number k)) (stakes_from from count)
number_count from zero k = refl
number_count from (suc count) k =
    let again = number_count (suc from) count k in
    let a = sum_by-cons (λ x. one (eqb x k)) from (numbers_from (suc from) count) in
    let b = sum_by-cons (λ (s : Stake). one (eqb s.number k)) (record { number = from; log = [] }) (stakes_from (suc from) count) in
    omega arith

-- if the leases from f on are cut at n, only n is gone
cut_at : (f n m : ℕ) → f ≤ n → sum_by (λ x. one (eqb x m)) (numbers_from f (n - f)) + one (leb (suc n) m) + one (eqb n m) ≡ one (leb f m)
cut_at f n m low =
    let c = number_count f (n - f) m in
    elim (stake_count f (n - f) m) [
      | inl y ↦
          let y0 = y.0 in let y1 = y.1 in let y2 = y.2 in
          elim (one_le (suc n) m) [
            | inl z ↦ let z1 = z.1 in absurd (omega arith)
            | inr z ↦ let z0 = z.0 in elim (one_eq n m) [
              | inl e ↦ let e1 = e.1 in absurd (omega arith)
              | inr e ↦ let e0 = e.0 in
                  elim (one_le f m) [ inl g ↦ let g0 = g.0 in omega arith | inr g ↦ let g1 = g.1 in absurd (omega arith) ]
            ]
          ]
      | inr y ↦
          let y1 = y.1 in
          elim (one_le (suc n) m) [
            | inl z ↦ let z0 = z.0 in let z1 = z.1 in elim (one_eq n m) [
              | inl e ↦ let e1 = e.1 in absurd (omega arith)
              | inr e ↦ let e0 = e.0 in
                  elim (one_le f m) [ inl g ↦ let g0 = g.0 in omega arith | inr g ↦ let g1 = g.1 in absurd (omega arith) ]
            ]
            | inr z ↦ let z0 = z.0 in let z1 = z.1 in elim (one_eq n m) [
              | inl e ↦ let e0 = e.0 in let e1 = e.1 in
                  elim (one_le f m) [ inl g ↦ let g0 = g.0 in omega arith | inr g ↦ let g1 = g.1 in absurd (omega arith) ]
              | inr e ↦ let e0 = e.0 in elim (one_le f m) [
                | inl g ↦ let g1 = g.1 in absurd (y.0 (g1, between n m e.1 z1))
                | inr g ↦ let g0 = g.0 in omega arith
              ]
            ]
          ]
    ]
  where
    between : (n m : ℕ) → (n ≡ m → ⊥) → m < suc n → m < f + (n - f)
    between n m ne high = elim (cases_lt m n) [ inl y ↦ omega arith | inr k ↦ absurd (ne (omega arith)) ]

-- a lease that is one of those from some number on
out_sum : (n : ℕ) (single from : List ℕ) (m : ℕ) → 0 < sum_by (λ f. one (leb f n)) from →
    lease_in (out_of n single from) m + one (eqb n m) ≡ sum_by (λ x. one (eqb x m)) single + sum_by (λ f. one (leb f m)) from
out_sum n single [] m has = absurd (omega arith)
out_sum n single (f ∷ fs) m has =
    let c = sum_by-cons (λ g. one (leb g n)) f fs in
    let d = sum_by-cons (λ g. one (leb g m)) f fs in
    elim (cases_lt n f) [
      | inl y ↦
          let z : one (leb f n) ≡ 0 = ap one (lt-leb f n y) in
          let again = out_sum n single fs m (omega arith) in
          let e = sum_by-cons (λ g. one (leb g m)) f (out_of n single fs).from in
          rw (lt-leb f n y) omega arith
      | inr low ↦
          let cut = cut_at f n m low in
          let e = sum_by-cons (λ g. one (leb g m)) (suc n) fs in
          let a = sum_by-append (λ x. one (eqb x m)) (numbers_from f (n - f)) single in
          rw (le-leb f n low) omega arith
    ]

-- a lease that is given
lease_sum : (n : ℕ) (l : Leases) → 0 < lease_in l n → (m : ℕ) → lease_in (lease_out n l) m + one (eqb n m) ≡ lease_in l m
lease_sum n l has m =
    elim (cases_lt 0 (sum_by (λ x. one (eqb x n)) l.single)) [
      | inl y ↦
          let first = first_of (λ x. eqb x n) l.single y in
          let f = first.1.left_out (λ x. one (eqb x m)) in
          let same : one (eqb first.0 m) ≡ one (eqb n m) = ap (λ x. one (eqb x m)) (eqb-true first.0 n first.1.passes) in
          rw (lt-ltb 0 (sum_by (λ x. one (eqb x n)) l.single) y) omega arith
      | inr none ↦ rw (le-ltb 0 (sum_by (λ x. one (eqb x n)) l.single) none) (out_sum n l.single l.from m (omega arith))
    ]

-- all that are given
pub leases_sum : (ns : List ℕ) (l : Leases) → HasLeases ns l → (m : ℕ) →
    lease_in (leases_out ns l) m + sum_by (λ x. one (eqb x m)) ns ≡ lease_in l m
leases_sum [] l has m = omega arith
leases_sum (n ∷ ns) l has m =
    let again = leases_sum ns (lease_out n l) has.1 m in
    let here = lease_sum n l has.0 m in
    let c = sum_by-cons (λ x. one (eqb x m)) n ns in
    omega arith
