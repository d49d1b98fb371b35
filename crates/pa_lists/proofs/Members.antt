-- The members of a list.
use Rattle.std.proofs.Common.{◌≡◌, ℕ, zero, suc, Bool, true, false, List, [], ◌∷◌, refl, sym, ap, subst, arith, ◌⊎◌, inl, inr, Some, None, eqb}
use Rattle.std.specs.Prelude.{Contains, find, is_some, unwrap_or}
use Rattle.std.specs.List.{list_any}
use Rattle.std.proofs.lemmas.Bool.{cases_Bool, true≢false, both_ways, or_left, or_right, eq-eqb}

pub not_in_none : {A : Type 0} (x : A) → Contains [] x → ⊥
not_in_none x h = let below = h.1 in omega arith

pub first_in : {A : Type 0} (x : A) (xs : List A) → Contains (x ∷ xs) x
first_in x xs = (0, omega arith, refl)

pub later_in : {A : Type 0} (y x : A) (xs : List A) → Contains xs x → Contains (y ∷ xs) x
later_in y x xs h = let below = h.1 in (suc h.0, omega arith, h.2)

pub in_cases : {A : Type 0} (y x : A) (xs : List A) → Contains (y ∷ xs) x → (y ≡ x) ⊎ Contains xs x
in_cases y x xs (zero, below, e) = inl e
in_cases y x xs (suc k, below, e) = inr (k, omega arith, e)

pub of_some : {A : Type 0} (x y : A) → Some x ≡ Some y → x ≡ y
of_some x y e = ap (λ o. unwrap_or o x) e

pub not_some : {A : Type 0} (x : A) → None ≡ Some x → ⊥
not_some x e = true≢false (sym (ap is_some e))

-- what `find` gives is a member that passes, and if it gives nothing none passes
pub find_is : {A : Type 0} (test : A → Bool) (xs : List A) (x : A) → find test xs ≡ Some x → Contains xs x × (test x ≡ true)
find_is test [] x e = absurd (not_some x e)
find_is test (y ∷ ys) x e = elim (cases_Bool (test y)) [
  | inl hit ↦
      let same = of_some y x (rw hit at e) in
      (subst (λ z. Contains (y ∷ ys) z) same (first_in y ys), subst (λ z. test z ≡ true) same hit)
  | inr miss ↦
      let (among, passes) = find_is test ys x (rw miss at e) in
      (later_in y x ys among, passes)
]

pub find_none : {A : Type 0} (test : A → Bool) (xs : List A) (x : A) → find test xs ≡ None → Contains xs x → test x ≡ false
find_none test [] x e among = absurd (not_in_none x among)
find_none test (y ∷ ys) x e among = elim (cases_Bool (test y)) [
  | inl hit ↦ absurd (not_some y (sym (rw hit at e)))
  | inr miss ↦ elim (in_cases y x ys among) [
    | inl same ↦ rw same at miss
    | inr rest ↦ find_none test ys x (rw miss at e) rest
  ]
]

pub find_some : {A : Type 0} (test : A → Bool) (xs : List A) (x : A) → Contains xs x → test x ≡ true → (y : A) × (find test xs ≡ Some y)
find_some test [] x among passes = absurd (not_in_none x among)
find_some test (y ∷ ys) x among passes = elim (cases_Bool (test y)) [
  | inl hit ↦ (y, rw hit refl)
  | inr miss ↦ elim (in_cases y x ys among) [
    | inl same ↦ absurd (both_ways _ miss (rw (← same) at passes))
    | inr rest ↦ let (z, e) = find_some test ys x rest passes in (z, rw miss e)
  ]
]

-- numbers that a list has, by a test
abbrev pub has : ℕ → List ℕ → Bool
has n xs = list_any (eqb n) xs

-- each member is found
pub has-true : (n : ℕ) (xs : List ℕ) → Contains xs n → has n xs ≡ true
has-true n [] among = absurd (not_in_none n among)
has-true n (x ∷ xs) among = elim (in_cases x n xs among) [
  | inl same ↦ or_left _ _ (eq-eqb n x (sym same))
  | inr rest ↦ or_right _ _ (has-true n xs rest)
]

pub has_not : (n : ℕ) (xs : List ℕ) → has n xs ≡ false → Contains xs n → ⊥
has_not n xs miss among = both_ways _ miss (has-true n xs among)
