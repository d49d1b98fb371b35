-- What holds of each two members of a list.
use Rattle.std.proofs.Common.{zero, suc, List, [], ◌∷◌, ◌++◌, get_or, subst, arith, inl, inr}
use Rattle.std.specs.Prelude.{Contains, AllPairs}
use Rattle.std.proofs.lemmas.List.Elements.{Contains-get_or, Contains-push_cases}
use Rattle.pa_lists.proofs.Members.{not_in_none, first_in, later_in}

pub pairs_none : {A : Type 0} (R : A → A → Type 0) → AllPairs R []
pairs_none R i j d before below = absurd (omega arith)

pub pairs_cons : {A : Type 0} (R : A → A → Type 0) (x : A) (xs : List A) → ((y : A) → Contains xs y → R x y) → AllPairs R xs →
    AllPairs R (x ∷ xs)
pairs_cons R x xs h hs zero zero d before below = absurd (omega arith)
pairs_cons R x xs h hs zero (suc j) d before below = h (get_or xs j d) (Contains-get_or xs j d (omega arith))
pairs_cons R x xs h hs (suc i) zero d before below = absurd (omega arith)
pairs_cons R x xs h hs (suc i) (suc j) d before below = hs i j d (omega arith) (omega arith)

pub pairs_tail : {A : Type 0} (R : A → A → Type 0) (x : A) (xs : List A) → AllPairs R (x ∷ xs) → AllPairs R xs
pairs_tail R x xs h i j d before below = h (suc i) (suc j) d (omega arith) (omega arith)

pub pairs_head : {A : Type 0} (R : A → A → Type 0) (x y : A) (xs : List A) → AllPairs R (x ∷ xs) → Contains xs y → R x y
pairs_head R x y xs h (k, below, e) = subst (λ z. R x z) e (h 0 (suc k) y (omega arith) (omega arith))

-- one more at the end
pub pairs_push : {A : Type 0} (R : A → A → Type 0) (xs : List A) (y : A) → AllPairs R xs → ((x : A) → Contains xs x → R x y) →
    AllPairs R (xs ++ y ∷ [])
pairs_push R [] y h hs = pairs_cons R y [] (λ z among. absurd (not_in_none z among)) (pairs_none R)
pairs_push R (x ∷ xs) y h hs =
    pairs_cons R x (xs ++ y ∷ [])
    (λ z among. elim (Contains-push_cases xs y z among) [
      | inl before ↦ pairs_head R x z xs h before
      | inr last ↦ subst (λ u. R x u) last (hs x (first_in x xs))
    ])
    (pairs_push R xs y (pairs_tail R x xs h) (λ z among. hs z (later_in x z xs among)))

-- what holds of each two members that a relation relates
pub pairs_give : {A : Type 0} (R S : A → A → Type 0) (xs : List A) → AllPairs R xs →
    ((x y : A) → Contains xs x → Contains xs y → R x y → S x y) → AllPairs S xs
pairs_give R S [] pairs h = pairs_none S
pairs_give R S (x ∷ xs) pairs h =
    pairs_cons S x xs (λ y among. h x y (first_in x xs) (later_in x y xs among) (pairs_head R x y xs pairs among))
    (pairs_give R S xs (pairs_tail R x xs pairs) (λ y z first second. h y z (later_in x y xs first) (later_in x z xs second)))
