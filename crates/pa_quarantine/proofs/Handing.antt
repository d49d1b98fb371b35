-- A list without one of its members, also if that was changed before.
use Rattle.std.proofs.Common.{◌≡◌, ℕ, ◌≤◌, Bool, true, List, [], ◌∷◌, refl, ◌∙◌, ap, arith, inl, inr}
use Rattle.std.specs.List.{sum_by}
use Rattle.std.proofs.lemmas.List.Sums.{sum_by-cons}
use Rattle.std.proofs.lemmas.Bool.{cases_Bool}
use Rattle.pa_slot.specs.declared.title.Title.{Title}
use Rattle.pa_slot.specs.Titles.{same_title}
use Rattle.pa_region.specs.declared.view.OwnTitle.{OwnTitle}
use Rattle.pa_region.specs.Moves.{without, changed, is_own_of}

module _ {A : Type 0} where
  -- without one member a sum isn't greater
  pub without_less : (test : A → Bool) (f : A → ℕ) (xs : List A) → sum_by f (without test xs) ≤ sum_by f xs
  without_less test f [] = omega arith
  without_less test f (x ∷ xs) =
      let again = without_less test f xs in
      let c = sum_by-cons f x xs in
      let d = sum_by-cons f x (without test xs) in
      elim (cases_Bool (test x)) [
        | inl y ↦ rw y (omega arith)
        | inr n ↦ rw n (omega arith)
      ]

-- without the first Own of the title, what was changed of it doesn't matter
pub without_changed : (t : Title) (change : OwnTitle → OwnTitle) → ((o : OwnTitle) → (change o).title ≡ o.title) → (os : List OwnTitle) →
    without (is_own_of t) (changed (is_own_of t) change os) ≡ without (is_own_of t) os
without_changed t change same [] = refl
without_changed t change same (o ∷ os) =
    elim (cases_Bool (same_title o.title t)) [
      | inl y ↦ let z : same_title (change o).title t ≡ true = ap (λ u. same_title u t) (same o) ∙ y in rw (y, z) refl
      | inr n ↦ rw n (rw n (ap (λ xs. o ∷ xs) (without_changed t change same os)))
    ]
