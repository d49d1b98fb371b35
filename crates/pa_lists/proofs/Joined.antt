-- The members of mapped, filtered and joined lists, and what holds of each two of them.
use Rattle.std.proofs.Common.{◌≡◌, Bool, true, List, [], ◌∷◌, ◌++◌, map, filter, flat_map, refl, sym, subst, inl, inr}
use Rattle.std.specs.Prelude.{Contains, AllPairs}
use Rattle.std.proofs.lemmas.Bool.{cases_Bool, both_ways}
use Rattle.std.proofs.lemmas.List.Elements.{Contains-append_left, Contains-append_right, Contains-append_cases}
use Rattle.pa_lists.proofs.Members.{not_in_none, first_in, later_in, in_cases}
use Rattle.pa_lists.proofs.Pairs.{pairs_none, pairs_cons, pairs_tail, pairs_head}

pub map_cases : {A B : Type 0} (f : A → B) (xs : List A) (y : B) → Contains (map f xs) y → (x : A) × Contains xs x × (f x ≡ y)
map_cases f [] y among = absurd (not_in_none y among)
map_cases f (x ∷ xs) y among = elim (in_cases (f x) y (map f xs) among) [
  | inl e ↦ (x, first_in x xs, e)
  | inr rest ↦ let (z, member, e) = map_cases f xs y rest in (z, later_in x z xs member, e)
]

pub map_in : {A B : Type 0} (f : A → B) (xs : List A) (x : A) → Contains xs x → Contains (map f xs) (f x)
map_in f [] x among = absurd (not_in_none x among)
map_in f (y ∷ ys) x among = elim (in_cases y x ys among) [
  | inl e ↦ subst (λ z. Contains (map f (y ∷ ys)) (f z)) e (first_in (f y) (map f ys))
  | inr rest ↦ later_in (f y) (f x) (map f ys) (map_in f ys x rest)
]

pub filter_cases : {A : Type 0} (test : A → Bool) (xs : List A) (x : A) → Contains (filter test xs) x → Contains xs x × (test x ≡ true)
filter_cases test [] x among = absurd (not_in_none x among)
filter_cases test (y ∷ ys) x among = elim (cases_Bool (test y)) [
  | inl hit ↦ elim (in_cases y x (filter test ys) (rw hit at among)) [
    | inl e ↦ (subst (λ z. Contains (y ∷ ys) z) e (first_in y ys), subst (λ z. test z ≡ true) e hit)
    | inr rest ↦ let (member, passes) = filter_cases test ys x rest in (later_in y x ys member, passes)
  ]
  | inr miss ↦ let (member, passes) = filter_cases test ys x (rw miss at among) in (later_in y x ys member, passes)
]

pub filter_in : {A : Type 0} (test : A → Bool) (xs : List A) (x : A) → Contains xs x → test x ≡ true → Contains (filter test xs) x
filter_in test [] x among passes = absurd (not_in_none x among)
filter_in test (y ∷ ys) x among passes = elim (cases_Bool (test y)) [
  | inl hit ↦ elim (in_cases y x ys among) [
    | inl e ↦ rw hit (subst (λ z. Contains (y ∷ filter test ys) z) e (first_in y (filter test ys)))
    | inr rest ↦ rw hit (later_in y x (filter test ys) (filter_in test ys x rest passes))
  ]
  | inr miss ↦ elim (in_cases y x ys among) [
    | inl e ↦ absurd (both_ways _ miss (subst (λ z. test z ≡ true) (sym e) passes))
    | inr rest ↦ rw miss (filter_in test ys x rest passes)
  ]
]

-- a first member that passes the test is the first that is kept
pub filter_here : {A : Type 0} (test : A → Bool) (x : A) (xs : List A) → test x ≡ true → filter test (x ∷ xs) ≡ x ∷ filter test xs
filter_here test x xs is = rw is refl

pub flat_cases : {A B : Type 0} (f : A → List B) (xs : List A) (y : B) → Contains (flat_map f xs) y → (x : A) × Contains xs x ×
    Contains (f x) y
flat_cases f [] y among = absurd (not_in_none y among)
flat_cases f (x ∷ xs) y among = elim (Contains-append_cases (f x) (flat_map f xs) y among) [
  | inl here ↦ (x, first_in x xs, here)
  | inr rest ↦ let (z, member, there) = flat_cases f xs y rest in (z, later_in x z xs member, there)
]

pub flat_in : {A B : Type 0} (f : A → List B) (xs : List A) (x : A) (y : B) → Contains xs x → Contains (f x) y → Contains (flat_map f xs) y
flat_in f [] x y among there = absurd (not_in_none x among)
flat_in f (z ∷ zs) x y among there = elim (in_cases z x zs among) [
  | inl e ↦ Contains-append_left (f z) (flat_map f zs) y (subst (λ u. Contains (f u) y) (sym e) there)
  | inr rest ↦ Contains-append_right (f z) (flat_map f zs) y (flat_in f zs x y rest there)
]

-- what each two members of a list give for their images
pub pairs_map : {A B : Type 0} (R : A → A → Type 0) (S : B → B → Type 0) (f : A → B) (xs : List A) →
    ((x y : A) → Contains xs x → Contains xs y → R x y → S (f x) (f y))
    → AllPairs R xs → AllPairs S (map f xs)
pairs_map R S f [] h pairs = pairs_none S
pairs_map R S f (x ∷ xs) h pairs =
    pairs_cons S (f x) (map f xs)
    (λ y among. let (z, member, e) = map_cases f xs y among in
    subst (λ u. S (f x) u) e (h x z (first_in x xs) (later_in x z xs member) (pairs_head R x z xs pairs member)))
    (pairs_map R S f xs (λ y z p q. h y z (later_in x y xs p) (later_in x z xs q)) (pairs_tail R x xs pairs))

pub pairs_append : {A : Type 0} (R : A → A → Type 0) (xs ys : List A) → AllPairs R xs → AllPairs R ys →
    ((x y : A) → Contains xs x → Contains ys y → R x y) → AllPairs R (xs ++ ys)
pairs_append R [] ys first second across = second
pairs_append R (x ∷ xs) ys first second across =
    pairs_cons R x (xs ++ ys)
    (λ y among. elim (Contains-append_cases xs ys y among) [
      | inl before ↦ pairs_head R x y xs first before
      | inr after ↦ across x y (first_in x xs) after
    ])
    (pairs_append R xs ys (pairs_tail R x xs first) second (λ u y p q. across u y (later_in x u xs p) q))

pub pairs_flat : {A B : Type 0} (R : A → A → Type 0) (S : B → B → Type 0) (f : A → List B) (xs : List A) → AllPairs R xs →
    ((x : A) → Contains xs x → AllPairs S (f x))
    → ((x y : A) (a b : B) → Contains xs x → Contains xs y → R x y → Contains (f x) a → Contains (f y) b → S a b) →
    AllPairs S (flat_map f xs)
pairs_flat R S f [] pairs each across = pairs_none S
pairs_flat R S f (x ∷ xs) pairs each across =
    pairs_append S (f x) (flat_map f xs) (each x (first_in x xs))
    (pairs_flat R S f xs (pairs_tail R x xs pairs) (λ y p. each y (later_in x y xs p))
    (λ y z a b p q. across y z a b (later_in x y xs p) (later_in x z xs q)))
    (λ a b p q. let (y, member, there) = flat_cases f xs b q in
    across x y a b (first_in x xs) (later_in x y xs member) (pairs_head R x y xs pairs member) p there)
