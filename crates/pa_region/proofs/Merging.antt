-- The words of two views together.
use Rattle.std.proofs.Common.{◌≡◌, ℕ, zero, suc, ◌+◌, ◌*◌, ◌<◌, ◌≤◌, Bool, true, false, ◌&&◌, List, [], ◌∷◌, length, refl, sym, ap, subst, arith, ◌⊎◌, inl, inr, ltb, leb}
use Rattle.std.specs.Prelude.{slice_index, if◌then◌else◌}
use Rattle.std.specs.List.{sum_by}
use Rattle.std.proofs.lemmas.List.Sums.{sum_by-cons}
use Rattle.std.proofs.lemmas.Bool.{cases_lt, lt-ltb, le-ltb, le-leb, lt-leb}
use Rattle.pa_slot.specs.declared.title.Title.{Title}
use Rattle.pa_slot.specs.Titles.{same_title, Covers, IsContentOf}
use Rattle.pa_slot.specs.Holdings.{RawByte, one}
use Rattle.pa_slot.proofs.Same.{title_one}
use Rattle.pa_region.specs.declared.view.OwnTitle.{OwnTitle}
use Rattle.pa_region.specs.declared.view.View.{View}
use Rattle.pa_region.specs.Views.{held_of_view, Knows}
use Rattle.pa_region.specs.Hands.{knowing, merged}

-- a test of two orders, as a number and as a fact
two_tests : (a b c d : ℕ) → ((one (leb a b && ltb c d) ≡ 1) × (a ≤ b) × (c < d)) ⊎
    ((one (leb a b && ltb c d) ≡ 0) × ((a ≤ b) × (c < d) → ⊥))
two_tests a b c d = elim (cases_lt b a) [
  | inl y ↦ inr (rw (lt-leb a b y) refl, (λ h. let z = h.0 in omega arith))
  | inr n ↦ elim (cases_lt c d) [
    | inl y ↦ inl (rw (le-leb a b n, lt-ltb c d y) refl, n, y)
    | inr m ↦ inr (rw (le-leb a b n, le-ltb c d m) refl, (λ h. let z = h.1 in omega arith))
  ]
]

-- a free title that covers the word
free_covering : (q : ℕ) (fs : List Title) → 0 < sum_by (λ t. one (leb t.start (8 * q) && ltb (8 * q) (t.start + t.len))) fs →
    (t : Title) × (0 < sum_by (λ u. one (same_title u t)) fs) × Covers t (8 * q)
free_covering q [] h = absurd (omega arith)
free_covering q (f ∷ fs) h =
    let c = sum_by-cons (λ t. one (leb t.start (8 * q) && ltb (8 * q) (t.start + t.len))) f fs in
    elim (two_tests f.start (8 * q) (8 * q) (f.start + f.len)) [
      | inl y ↦
          let d = sum_by-cons (λ u. one (same_title u f)) f fs in
          elim (title_one f f) [ inl z ↦ let z0 = z.0 in (f, omega arith, (y.1, y.2)) | inr z ↦ absurd (z.1 refl) ]
      | inr n ↦
          let n0 = n.0 in
          let again = free_covering q fs (omega arith) in
          let d = sum_by-cons (λ u. one (same_title u again.0)) f fs in
          let a = again.1 in
          (again.0, omega arith, again.2)
    ]

-- if a free title covers the word, one that does is counted among the free ones
covering_free : (q : ℕ) (fs : List Title) (t : Title) → 0 < sum_by (λ u. one (same_title u t)) fs → Covers t (8 * q) →
    0 < sum_by (λ t. one (leb t.start (8 * q) && ltb (8 * q) (t.start + t.len))) fs
covering_free q [] t h covers = absurd (omega arith)
covering_free q (f ∷ fs) t h covers =
    let c = sum_by-cons (λ t. one (leb t.start (8 * q) && ltb (8 * q) (t.start + t.len))) f fs in
    let d = sum_by-cons (λ u. one (same_title u t)) f fs in
    elim (title_one f t) [
      | inl y ↦ elim (two_tests f.start (8 * q) (8 * q) (f.start + f.len)) [
        | inl z ↦ let z0 = z.0 in omega arith
        | inr z ↦ absurd (z.1 (subst (λ (u : Title). Covers u (8 * q)) (sym y.1) covers))
      ]
      | inr n ↦ let n0 = n.0 in let again = covering_free q fs t (omega arith) covers in omega arith
    ]

-- an Own with the word as a content word
own_covering : (q : ℕ) (os : List OwnTitle) →
    0 < sum_by (λ (o : OwnTitle). one (leb o.title.start (8 * q) && ltb (8 * q + 8) (o.title.start + o.title.len))) os →
    (t : Title) × (0 < sum_by (λ (o : OwnTitle). one (same_title o.title t)) os) × IsContentOf t (8 * q)
own_covering q [] h = absurd (omega arith)
own_covering q (f ∷ fs) h =
    let c = sum_by-cons (λ (o : OwnTitle). one (leb o.title.start (8 * q) && ltb (8 * q + 8) (o.title.start + o.title.len))) f fs in
    elim (two_tests f.title.start (8 * q) (8 * q + 8) (f.title.start + f.title.len)) [
      | inl y ↦
          let d = sum_by-cons (λ (o : OwnTitle). one (same_title o.title f.title)) f fs in
          elim (title_one f.title f.title) [ inl z ↦ let z0 = z.0 in (f.title, omega arith, (y.1, y.2)) | inr z ↦ absurd (z.1 refl) ]
      | inr n ↦
          let n0 = n.0 in
          let again = own_covering q fs (omega arith) in
          let d = sum_by-cons (λ (o : OwnTitle). one (same_title o.title again.0)) f fs in
          let a = again.1 in
          (again.0, omega arith, again.2)
    ]

-- if the word is a content word of an Own, one of which it is a content word is counted among the Owns
covering_own : (q : ℕ) (os : List OwnTitle) (t : Title) → 0 < sum_by (λ (o : OwnTitle). one (same_title o.title t)) os →
    IsContentOf t (8 * q) →
    0 < sum_by (λ (o : OwnTitle). one (leb o.title.start (8 * q) && ltb (8 * q + 8) (o.title.start + o.title.len))) os
covering_own q [] t h inside = absurd (omega arith)
covering_own q (f ∷ fs) t h inside =
    let c = sum_by-cons (λ (o : OwnTitle). one (leb o.title.start (8 * q) && ltb (8 * q + 8) (o.title.start + o.title.len))) f fs in
    let d = sum_by-cons (λ (o : OwnTitle). one (same_title o.title t)) f fs in
    elim (title_one f.title t) [
      | inl y ↦ elim (two_tests f.title.start (8 * q) (8 * q + 8) (f.title.start + f.title.len)) [
        | inl z ↦ let z0 = z.0 in omega arith
        | inr z ↦ absurd (z.1 (subst (λ (u : Title). IsContentOf u (8 * q)) (sym y.1) inside))
      ]
      | inr n ↦ let n0 = n.0 in let again = covering_own q fs t (omega arith) inside in omega arith
    ]

-- what is counted is what the view knows
pub knowing_knows : (v : View) (q : ℕ) → 0 < knowing v q → Knows v q
knowing_knows v q h = elim (cases_lt 0 (held_of_view v (RawByte (8 * q)))) [
  | inl y ↦ inl y
  | inr n ↦ elim (cases_lt 0 (sum_by (λ t. one (leb t.start (8 * q) && ltb (8 * q) (t.start + t.len))) v.frees)) [
    | inl y ↦ inr (inl (free_covering q v.frees y))
    | inr m ↦ inr (inr (own_covering q v.owns (omega arith)))
  ]
]

pub knows_knowing : (v : View) (q : ℕ) → Knows v q → 0 < knowing v q
knows_knowing v q (inl raw) = omega arith
knows_knowing v q (inr (inl free)) = let e = covering_free q v.frees free.0 free.1 free.2 in omega arith
knows_knowing v q (inr (inr own)) = let e = covering_own q v.owns own.0 own.1 own.2 in omega arith

-- there are as many words
pub merged_long : (v : View) (q : ℕ) (xs ys : List ℕ) → length xs ≡ length ys → length (merged v q xs ys) ≡ length xs
unfolding merged
merged_long v q [] [] e = refl
merged_long v q [] (y ∷ ys) e = absurd (omega arith)
merged_long v q (x ∷ xs) [] e = refl
merged_long v q (x ∷ xs) (y ∷ ys) e = ap suc (merged_long v (suc q) xs ys (omega arith))

-- the word at each place of two lists that are merged
pub merged_at : (v : View) (q : ℕ) (xs ys : List ℕ) (i : ℕ) → length xs ≡ length ys →
    slice_index (merged v q xs ys) i ≡ (if ltb 0 (knowing v (q + i)) then slice_index xs i else slice_index ys i)
unfolding merged
merged_at v q [] [] i e = same (ltb 0 (knowing v (q + i)))
  where
    same : (b : Bool) → slice_index [] i ≡ (if b then slice_index [] i else slice_index [] i)
    same true = refl
    same false = refl
merged_at v q [] (y ∷ ys) i e = absurd (omega arith)
merged_at v q (x ∷ xs) [] i e = absurd (omega arith)
merged_at v q (x ∷ xs) (y ∷ ys) zero e =
    subst (λ (n : ℕ). (if ltb 0 (knowing v q) then x else y) ≡ (if ltb 0 (knowing v n) then x else y))
    (let z : q ≡ q + 0 = omega arith in z) refl
merged_at v q (x ∷ xs) (y ∷ ys) (suc i) e =
    subst (λ (n : ℕ). slice_index (merged v (suc q) xs ys) i ≡ (if ltb 0 (knowing v n) then slice_index xs i else slice_index ys i))
    (let z : suc q + i ≡ q + suc i = omega arith in z)
    (merged_at v (suc q) xs ys i (omega arith))
