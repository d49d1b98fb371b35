-- Sums over a list in which one member changes, is left out or is found.
use Rattle.std.proofs.Common.{◌≡◌, ℕ, zero, suc, ◌+◌, ◌<◌, ◌≤◌, Bool, true, false, ◌&&◌, ◌||◌, List, [], ◌∷◌, map, set, refl, sym, ap, arith, ◌⊎◌, inl, inr, eqb, ltb, cond}
use Rattle.std.specs.List.{sum_by}
use Rattle.std.proofs.lemmas.List.Sums.{sum_by-cons}
use Rattle.std.proofs.lemmas.Bool.{cases_Bool, cases_lt, lt-ltb, le-ltb}
use Rattle.std.proofs.lemmas.Bool.Decides.{eqb_tells}
use mathlib.Core.Option.{some, some-injective, some-ne-none}
use lib.ListN.{get_elem?}
use Rattle.pa_slot.specs.Holdings.{one}
use Rattle.pa_region.specs.Moves.{without, changed}

module _ {A : Type 0} where
  -- the sum after a change of one member
  pub sum_set : (f : A → ℕ) (xs : List A) (i : ℕ) (x y : A) → get_elem? xs i ≡ some x → sum_by f (set xs i y) + f x ≡ sum_by f xs + f y
  sum_set f [] i x y e = absurd (some-ne-none x (sym e))
  sum_set f (z ∷ zs) zero x y e =
      let same : f z ≡ f x = ap f (some-injective z x e) in
      omega (arith, sum_by-cons f y zs, sum_by-cons f z zs)
  sum_set f (z ∷ zs) (suc i) x y e =
      let again = sum_set f zs i x y e in
      omega (arith, sum_by-cons f z (set zs i y), sum_by-cons f z zs)

  -- one member's amount is within the sum
  pub sum_part : (f : A → ℕ) (xs : List A) (i : ℕ) (x : A) → get_elem? xs i ≡ some x → f x ≤ sum_by f xs
  sum_part f [] i x e = absurd (some-ne-none x (sym e))
  sum_part f (z ∷ zs) zero x e =
      let same : f z ≡ f x = ap f (some-injective z x e) in
      omega (arith, sum_by-cons f z zs)
  sum_part f (z ∷ zs) (suc i) x e =
      let again = sum_part f zs i x e in
      omega (arith, sum_by-cons f z zs)

  -- two members are within the sum
  pub sum_pair : (f : A → ℕ) (xs : List A) (i j : ℕ) (v x : A) → get_elem? xs i ≡ some v → get_elem? xs j ≡ some x → (j ≡ i → ⊥) →
      f v + f x ≤ sum_by f xs
  sum_pair f [] i j v x e g ne = absurd (some-ne-none v (sym e))
  sum_pair f (y ∷ ys) zero zero v x e g ne = absurd (ne refl)
  sum_pair f (y ∷ ys) zero (suc j) v x e g ne =
      let c = sum_by-cons f y ys in
      let here : f y ≡ f v = ap f (some-injective y v e) in
      let rest = sum_part f ys j x g in
      omega arith
  sum_pair f (y ∷ ys) (suc i) zero v x e g ne =
      let c = sum_by-cons f y ys in
      let here : f y ≡ f x = ap f (some-injective y x g) in
      let rest = sum_part f ys i v e in
      omega arith
  sum_pair f (y ∷ ys) (suc i) (suc j) v x e g ne =
      let c = sum_by-cons f y ys in
      let again = sum_pair f ys i j v x e g (λ q. ne (ap suc q)) in
      omega arith

  pub sum_map : {B : Type 0} (f : B → ℕ) (g : A → B) (xs : List A) → sum_by f (map g xs) ≡ sum_by (λ x. f (g x)) xs
  sum_map f g [] = refl
  sum_map f g (x ∷ xs) =
      let again = sum_map f g xs in
      omega (arith, sum_by-cons f (g x) (map g xs), sum_by-cons (λ y. f (g y)) x xs)

  -- sums of amounts that are equal, or that add up
  pub sum_same : (f g : A → ℕ) (xs : List A) → ((x : A) → f x ≡ g x) → sum_by f xs ≡ sum_by g xs
  sum_same f g [] h = refl
  sum_same f g (x ∷ xs) h =
      let again = sum_same f g xs h in
      let here = h x in
      omega (arith, sum_by-cons f x xs, sum_by-cons g x xs)

  pub sum_split : (f g h : A → ℕ) (xs : List A) → ((x : A) → f x + g x ≡ h x) → sum_by f xs + sum_by g xs ≡ sum_by h xs
  sum_split f g h [] each = refl
  sum_split f g h (x ∷ xs) each =
      let again = sum_split f g h xs each in
      let here = each x in
      omega (arith, sum_by-cons f x xs, sum_by-cons g x xs, sum_by-cons h x xs)

  pub sum_none : (f : A → ℕ) (xs : List A) → ((x : A) → f x ≡ 0) → sum_by f xs ≡ 0
  sum_none f [] h = refl
  sum_none f (x ∷ xs) h =
      let again = sum_none f xs h in
      let here = h x in
      omega (arith, sum_by-cons f x xs)

  -- If some member passes the test, the first such member is one that does. Leaving it out takes its amount from
  -- each sum, and changing it puts another in its place.
  pub record IsFirst (test : A → Bool) (xs : List A) (x : A) : Type 0 where
    pub passes : test x ≡ true
    pub left_out : (f : A → ℕ) → sum_by f (without test xs) + f x ≡ sum_by f xs
    pub replaced : (change : A → A) (f : A → ℕ) → sum_by f (changed test change xs) + f x ≡ sum_by f xs + f (change x)

  first_later : (test : A → Bool) (x : A) (xs : List A) → test x ≡ false → (y : A) → IsFirst test xs y → IsFirst test (x ∷ xs) y
  first_later test x xs n y again = record {
    passes = again.passes;
    left_out = λ f. rw n (
        let a = again.left_out f in
        omega (arith, sum_by-cons f x xs, sum_by-cons f x (without test xs)));
    replaced = λ change f. rw n (
        let a = again.replaced change f in
        omega (arith, sum_by-cons f x xs, sum_by-cons f x (changed test change xs)));
  }

  pub first_of : (test : A → Bool) (xs : List A) → 0 < sum_by (λ x. one (test x)) xs → (x : A) × IsFirst test xs x
  first_of test [] h = absurd (omega arith)
  first_of test (x ∷ xs) h =
      elim (cases_Bool (test x)) [
        | inl y ↦ (
          x,
          record {
            passes = y;
            left_out = λ f. rw y (omega (arith, sum_by-cons f x xs));
            replaced = λ change f. rw y (omega (arith, sum_by-cons f x xs, sum_by-cons f (change x) xs));
          },
        )
        | inr n ↦
            let c = sum_by-cons (λ y. one (test y)) x xs in
            let z : one (test x) ≡ 0 = ap one n in
            let again = first_of test xs (omega arith) in
            (again.0, first_later test x xs n again.0 again.1)
      ]

  -- a change that leaves each member's amount leaves the sum
  pub changed_sum : (test : A → Bool) (change : A → A) (f : A → ℕ) (xs : List A) → ((x : A) → f (change x) ≡ f x) →
      sum_by f (changed test change xs) ≡ sum_by f xs
  changed_sum test change f [] same = refl
  changed_sum test change f (x ∷ xs) same =
      let again = changed_sum test change f xs same in
      let here = same x in
      elim (cases_Bool (test x)) [
        | inl y ↦ rw y (omega (arith, sum_by-cons f (change x) xs, sum_by-cons f x xs))
        | inr n ↦ rw n (omega (arith, sum_by-cons f x (changed test change xs), sum_by-cons f x xs))
      ]

  -- two tests that agree on each member change the same one
  pub changed_agree : (test other : A → Bool) (change : A → A) (xs : List A) →
      ((j : ℕ) (x : A) → get_elem? xs j ≡ some x → test x ≡ other x) →
      changed test change xs ≡ changed other change xs
  changed_agree test other change [] same = refl
  changed_agree test other change (x ∷ xs) same =
      let here = same 0 x refl in
      let again = changed_agree test other change xs (λ j y e. same (suc j) y e) in
      elim (cases_Bool (other x)) [
        | inl y ↦ rw (here, y) refl
        | inr n ↦ rw (here, n) (ap (λ ys. x ∷ ys) again)
      ]

  -- a sum in which each member counts nothing
  pub sum_zero : (f : A → ℕ) (xs : List A) → ((j : ℕ) (x : A) → get_elem? xs j ≡ some x → f x ≡ 0) → sum_by f xs ≡ 0
  sum_zero f [] h = refl
  sum_zero f (x ∷ xs) h =
      let c = sum_by-cons f x xs in
      let here = h 0 x refl in
      let again = sum_zero f xs (λ j y e. h (suc j) y e) in
      omega arith

  -- a sum in which all others count nothing
  pub sum_alone : (f : A → ℕ) (xs : List A) (i : ℕ) (v : A) → get_elem? xs i ≡ some v →
      ((j : ℕ) (x : A) → get_elem? xs j ≡ some x → (j ≡ i → ⊥) → f x ≡ 0) → sum_by f xs ≡ f v
  sum_alone f [] i v e h = absurd (some-ne-none v (sym e))
  sum_alone f (x ∷ xs) zero v e h =
      let c = sum_by-cons f x xs in
      let here : f x ≡ f v = ap f (some-injective x v e) in
      let rest = sum_zero f xs (λ j y at_j. h (suc j) y at_j (λ q. omega arith)) in
      omega arith
  sum_alone f (x ∷ xs) (suc i) v e h =
      let c = sum_by-cons f x xs in
      let here = h 0 x refl (λ q. omega arith) in
      let again = sum_alone f xs i v e (λ j y at_j ne. h (suc j) y at_j (λ q. ne (omega arith))) in
      omega arith

  -- if none passes, a change changes nothing
  pub none_changed : (test : A → Bool) (change : A → A) (xs : List A) → sum_by (λ x. one (test x)) xs ≡ 0 → changed test change xs ≡ xs
  none_changed test change [] h = refl
  none_changed test change (x ∷ xs) h =
      elim (cases_Bool (test x)) [
        | inl y ↦
            let c = sum_by-cons (λ y. one (test y)) x xs in
            let z : one (test x) ≡ 1 = ap one y in
            absurd (omega arith)
        | inr n ↦
            let c = sum_by-cons (λ y. one (test y)) x xs in
            rw n (ap (λ ys. x ∷ ys) (none_changed test change xs (omega arith)))
      ]

-- tests as numbers
pub one_and : (a b : Bool) → one (a && b) ≤ one a
one_and true true = omega arith
one_and true false = omega arith
one_and false b = omega arith

-- a test counts at most 1
pub one_small : (b : Bool) → one b ≤ 1
one_small true = omega arith
one_small false = omega arith

-- to forget one of two tests counts no more
pub one_less : (b c d : Bool) → one (b && d) ≤ one (b && (c || d))
one_less true true d = one_small d
one_less true false d = omega arith
one_less false c d = omega arith

-- a test that is split by another counts once
pub one_split : (a b : Bool) → one (a && b) + one (a && cond b false true) ≡ one a
one_split true true = refl
one_split true false = refl
one_split false b = refl

-- whether a is below b, as a number and as a fact
pub one_lt : (a b : ℕ) → ((one (ltb a b) ≡ 1) × (a < b)) ⊎ ((one (ltb a b) ≡ 0) × (b ≤ a))
one_lt a b = elim (cases_lt a b) [
  | inl y ↦ inl (ap one (lt-ltb a b y), y)
  | inr n ↦ inr (ap one (le-ltb a b n), n)
]

-- whether a is b, as a number and as a fact
pub one_eq : (a b : ℕ) → ((one (eqb a b) ≡ 1) × (a ≡ b)) ⊎ ((one (eqb a b) ≡ 0) × (a ≡ b → ⊥))
one_eq a b = elim (eqb_tells a b) [ inl y ↦ inl (ap one y.0, y.1) | inr n ↦ inr (ap one n.0, n.1) ]
