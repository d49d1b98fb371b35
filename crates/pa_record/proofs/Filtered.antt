-- A filter that nothing passes, and one that all pass.
use Rattle.std.proofs.Common.{◌≡◌, Bool, true, false, List, [], ◌∷◌, filter, refl, ap}
use Rattle.std.specs.Prelude.{Contains}
use Rattle.pa_lists.proofs.Members.{first_in, later_in}

pub filter_none : {A : Type 0} (test : A → Bool) (xs : List A) → ((x : A) → Contains xs x → test x ≡ false) → filter test xs ≡ []
filter_none test [] h = refl
filter_none test (x ∷ xs) h = rw (h x (first_in x xs)) (filter_none test xs (λ y among. h y (later_in x y xs among)))

pub filter_all : {A : Type 0} (test : A → Bool) (xs : List A) → ((x : A) → Contains xs x → test x ≡ true) → filter test xs ≡ xs
filter_all test [] h = refl
filter_all test (x ∷ xs) h = rw (h x (first_in x xs)) (ap (λ ys. x ∷ ys) (filter_all test xs (λ y among. h y (later_in x y xs among))))
