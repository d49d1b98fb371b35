-- Induction along an order in which no member of a list comes before itself.
use Rattle.std.proofs.Common.{◌≡◌, ℕ, zero, suc, ◌+◌, ◌≤◌, ◌⊎◌, List, ◌∷◌, ◌++◌, length, sym, ap, subst, arith, inl, inr}
use Rattle.std.specs.Prelude.{Contains}
use Rattle.std.proofs.lemmas.List.{length-append}
use Rattle.std.proofs.lemmas.List.Elements.{Contains-append_cases, Contains-append_left, Contains-append_right}
use Rattle.pa_lists.proofs.Members.{in_cases}
use Rattle.pa_lists.proofs.Parts.{parts_at}

-- a list without one of its members
without : {A : Type 0} (xs : List A) (x : A) → Contains xs x
    → (ys : List A) × (length xs ≡ length ys + 1) × ((z : A) → Contains xs z → (x ≡ z) ⊎ Contains ys z)
without {A} xs x among =
    let (before, rest, parts) = parts_at xs x among in
    let whole = length-append before (x ∷ rest) in
    let less = length-append before rest in
    let all : length xs ≡ length (before ++ x ∷ rest) = ap {A = List A} length parts in (
      before ++ rest,
      omega (arith, whole, less, all),
      λ z member. elim (Contains-append_cases before (x ∷ rest) z (subst (λ (zs : List A). Contains zs z) parts member)) [
        | inl front ↦ inr (Contains-append_left before rest z front)
        | inr back ↦ elim (in_cases x z rest back) [
          | inl same ↦ inl same
          | inr later ↦ inr (Contains-append_right before rest z later)
        ]
      ],
    )

module _ {A : Type 0} (R : A → A → Type 0) (P : A → Type 0) (xs : List A)
    (forward : (x y z : A) → Contains xs y → R x y → R y z → R x z)
    (ahead : (x : A) → Contains xs x → R x x → ⊥)
    (step : (x : A) → Contains xs x → ((y : A) → Contains xs y → R y x → P y) → P x) where
  -- if all that comes before x is in a list that isn't longer than n
  from_few : (n : ℕ) (few : List A) → length few ≤ n → (x : A) → Contains xs x → ((y : A) → Contains xs y → R y x → Contains few y) → P x
  from_few zero few short x among below =
      step x among (λ y there less. let low = (below y there less).1 in absurd (omega (arith, low, short)))
  from_few (suc n) few short x among below = step x among (λ y there less.
      let (rest, long, cases) = without few y (below y there less) in
      from_few n rest (omega (arith, long, short)) y there
      (λ z member lower. elim (cases z (below z member (forward z y x there lower less))) [
        | inl same ↦ absurd (ahead y there (subst (λ w. R w y) (sym same) lower))
        | inr later ↦ later
      ]))

  -- what holds of each member of which it holds for all that come before it holds of all members
  pub from_below : (x : A) → Contains xs x → P x
  from_below x among = from_few (length xs) xs (omega arith) x among (λ y there less. there)
