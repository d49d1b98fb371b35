-- The content that moments leave: the last value that one of them left.
use Rattle.std.proofs.Common.{◌≡◌, ℕ, ◌<◌, ◌≤◌, List, [], ◌∷◌, ◌++◌, Option, Some, ◌⊎◌, refl, sym, ◌∙◌, ap, subst, arith, inl, inr}
use Rattle.std.specs.Prelude.{Contains}
use Rattle.std.specs.List.{filter_map}
use Rattle.std.proofs.lemmas.Bool.{cases_lt}
use Rattle.pa_slot.specs.declared.word.SlotName.{SlotName}
use Rattle.pa_lists.proofs.Members.{first_in, later_in, in_cases}
use Rattle.pa_timeline.specs.Timeline.{Moment, moment_leaves, content_after}
use Rattle.pa_timeline.proofs.Kept.{none_or_some}

-- the last of some values
abbrev pub last_of : ℕ → List ℕ → ℕ
last_of c [] = c
last_of c (v ∷ vs) = last_of v vs

pub content_is_last : (s : SlotName) (place c : ℕ) (ms : List Moment) →
    content_after s place c ms ≡ last_of c (filter_map (moment_leaves s place) ms)
content_is_last s place c [] = refl
content_is_last s place c (m ∷ ms) = elim (none_or_some (moment_leaves s place m)) [
  | inl none ↦ rw none (content_is_last s place c ms)
  | inr (v, is) ↦ rw is (content_is_last s place v ms)
]

module _ {A : Type 0} (f : A → Option ℕ) where
  all_one : (c v : ℕ) (xs : List A) → c ≡ v → ((x : A) (u : ℕ) → Contains xs x → f x ≡ Some u → u ≡ v) → last_of c (filter_map f xs) ≡ v
  all_one c v [] is same = is
  all_one c v (x ∷ xs) is same = elim (none_or_some (f x)) [
    | inl none ↦ rw none (all_one c v xs is (λ y u among. same y u (later_in x y xs among)))
    | inr (u, here) ↦ rw here (all_one u v xs (same x u (first_in x xs) here) (λ y w among. same y w (later_in x y xs among)))
  ]

  -- if one leaves a value, and those after it leave nothing else, it is the last
  pub stays_last : (c v : ℕ) (before after : List A) (x : A) → f x ≡ Some v → ((y : A) (u : ℕ) → Contains after y → f y ≡ Some u → u ≡ v) →
      last_of c (filter_map f (before ++ x ∷ after)) ≡ v
  stays_last c v [] after x is same = rw is (all_one v v after refl same)
  stays_last c v (y ∷ before) after x is same = elim (none_or_some (f y)) [
    | inl none ↦ rw none (stays_last c v before after x is same)
    | inr (u, here) ↦ rw here (stays_last u v before after x is same)
  ]

  -- the numbers of all that leave something are small, or one is great
  pub one_above : (key : A → ℕ) (n : ℕ) (xs : List A) →
      ((x : A) (u : ℕ) → Contains xs x → f x ≡ Some u → key x ≤ n) ⊎ ((x : A) × (u : ℕ) × Contains xs x × (f x ≡ Some u) × (n < key x))
  one_above key n [] = inl (λ x u among. absurd (omega arith))
  one_above key n (x ∷ xs) = elim (one_above key n xs) [
    | inr (y, u, among, is, high) ↦ inr (y, u, later_in x y xs among, is, high)
    | inl low ↦ elim (none_or_some (f x)) [
      | inl none ↦ inl (λ y u among is. elim (in_cases x y xs among) [
        | inl e ↦ absurd (let both = sym none ∙ ap f e ∙ is in cc)
        | inr rest ↦ low y u rest is
      ])
      | inr (u, here) ↦ elim (cases_lt n (key x)) [
        | inl high ↦ inr (x, u, first_in x xs, here, high)
        | inr small ↦ inl (λ y w among is. elim (in_cases x y xs among) [
          | inl e ↦ subst (λ z. key z ≤ n) e small
          | inr rest ↦ low y w rest is
        ])
      ]
    ]
  ]
