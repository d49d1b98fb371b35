-- Lists and options of any type: members and their places, parts of a list, pairs in order, and elements that a value tells apart.
use Rattle.std.proofs.Common.{◌≡◌, ℕ, List, [], ◌∷◌, ◌++◌, map, take, drop, Option, Some, None, refl, sym, ◌∙◌, ap, subst, inl, inr, length, suc, get_or, Bool, true, ◌+◌, arith}
use Rattle.std.specs.Prelude.{Contains, All, AllPairs}
use Rattle.std.proofs.lemmas.List.{take-append-drop}
use Rattle.std.proofs.lemmas.List.Elements.{All-nil, All-cons, All-head, All-tail, Contains-append_left, Contains-append_right, Contains-get_or, All-contains}
use Rattle.pa_lists.proofs.Members.{not_in_none, first_in, later_in, in_cases}
use Rattle.pa_lists.proofs.Pairs.{pairs_none, pairs_cons, pairs_tail, pairs_head}
pub use Rattle.pa_lists.proofs.Parts.{parts_at, pairs_across, pairs_after}
use Rattle.std.specs.List.{list_all, AllByRecursion}
use Rattle.std.proofs.lemmas.List.Sums.{AllPass-from_list_all}

-- ---- members

-- the members of a part
pub in_front : {A : Type 0} (xs ys zs : List A) (z : A) → zs ≡ xs ++ ys → Contains xs z → Contains zs z
in_front xs ys zs z parts among = subst (λ us. Contains us z) (sym parts) (Contains-append_left xs ys z among)

pub in_middle : {A : Type 0} (xs ys zs : List A) (z : A) → zs ≡ xs ++ z ∷ ys → Contains zs z
in_middle xs ys zs z parts = subst (λ us. Contains us z) (sym parts) (Contains-append_right xs (z ∷ ys) z (first_in z ys))

pub take_in : {A : Type 0} (k : ℕ) (xs : List A) (x : A) → Contains (take k xs) x → Contains xs x
take_in k xs x among = subst (λ ys. Contains ys x) (take-append-drop k xs) (Contains-append_left (take k xs) (drop k xs) x among)

pub drop_in : {A : Type 0} (k : ℕ) (xs : List A) (x : A) → Contains (drop k xs) x → Contains xs x
drop_in k xs x among = subst (λ ys. Contains ys x) (take-append-drop k xs) (Contains-append_right (take k xs) (drop k xs) x among)

-- the only member
pub in_one : {A : Type 0} (x y : A) → Contains (x ∷ []) y → x ≡ y
in_one x y among = elim (in_cases x y [] among) [
  | inl same ↦ same
  | inr none ↦ absurd (not_in_none y none)
]

-- ---- parts

pub both_parts : {A : Type 0} (xs ys us vs : List A) → xs ≡ us → ys ≡ vs → xs ++ ys ≡ us ++ vs
both_parts xs ys us vs e f = ap (λ z. z ++ ys) e ∙ ap (λ z. us ++ z) f

pub left_none : {A : Type 0} (xs ys : List A) → xs ++ ys ≡ [] → xs ≡ []
left_none [] ys e = refl
left_none (x ∷ xs) ys e = absurd cc

pub all_front : {A : Type 0} (P : A → Type 0) (xs ys : List A) → All P (xs ++ ys) → All P xs
all_front P [] ys h = All-nil P
all_front P (x ∷ xs) ys h = All-cons P x xs (All-head P x (xs ++ ys) h) (all_front P xs ys (All-tail P x (xs ++ ys) h))

-- what all of a list have the second part of it has
pub all_back : {A : Type 0} (P : A → Type 0) (xs ys : List A) → All P (xs ++ ys) → All P ys
all_back P [] ys h = h
all_back P (x ∷ xs) ys h = all_back P xs ys (All-tail P x (xs ++ ys) h)

pub pairs_front : {A : Type 0} (R : A → A → Type 0) (xs ys : List A) → AllPairs R (xs ++ ys) → AllPairs R xs
pairs_front R [] ys h = pairs_none R
pairs_front R (x ∷ xs) ys h =
    pairs_cons R x xs (λ y among. pairs_head R x y (xs ++ ys) h (Contains-append_left xs ys y among))
    (pairs_front R xs ys (pairs_tail R x (xs ++ ys) h))

pub same_cons : {A : Type 0} (x y : A) (xs ys : List A) → x ≡ y → xs ≡ ys → x ∷ xs ≡ y ∷ ys
same_cons x y xs ys e f = cc

-- ---- maps

-- a list of which one value comes has one element
pub map_one : {A B : Type 0} (f : A → B) (xs : List A) (y : B) → map f xs ≡ y ∷ [] → (x : A) × (xs ≡ x ∷ []) × (f x ≡ y)
map_one f [] y e = absurd cc
map_one f (x ∷ []) y e = (x, refl, cc)
map_one f (x ∷ z ∷ zs) y e = absurd cc

-- lists of the same values are the same if a value determines the element
pub map_tells : {A B : Type 0} (f : A → B) (xs ys : List A) → ((x y : A) → Contains xs x → Contains ys y → f x ≡ f y → x ≡ y) →
    map f xs ≡ map f ys → xs ≡ ys
map_tells f [] [] tells e = refl
map_tells f [] (y ∷ ys) tells e = absurd cc
map_tells f (x ∷ xs) [] tells e = absurd cc
map_tells f (x ∷ xs) (y ∷ ys) tells e =
    let head : f x ≡ f y = cc in
    let first : x ≡ y = tells x y (first_in x xs) (first_in y ys) head in
    let rest : xs ≡ ys = map_tells f xs ys (λ u v among among'. tells u v (later_in x u xs among) (later_in y v ys among')) cc in
    ap (λ z. z ∷ xs) first ∙ ap (λ zs. y ∷ zs) rest

-- ---- options

-- what one of two has the other has
pub both_have : {A : Type 0} (o q : Option A) → ((d : A) → o ≡ Some d → q ≡ Some d) → ((d : A) → q ≡ Some d → o ≡ Some d) → o ≡ q
both_have None None there back = refl
both_have None (Some d) there back = back d refl
both_have (Some d) q there back = sym (there d refl)

pub length_map : {A B : Type 0} (f : A → B) (xs : List A) → length (map f xs) ≡ length xs
length_map f [] = refl
length_map f (x ∷ xs) = ap suc (length_map f xs)

pub length_same : {A B : Type 0} (f : A → B) (xs : List A) (ys : List B) → map f xs ≡ ys → length ys ≡ length xs
length_same f xs ys e = sym (ap (λ zs. length zs) e) ∙ length_map f xs

-- maps that are alike at each element
pub map_alike : {A B : Type 0} (f g : A → B) (xs : List A) → All (λ x. f x ≡ g x) xs → map f xs ≡ map g xs
map_alike f g [] same = refl
map_alike f g (x ∷ xs) same =
    same_cons (f x) (g x) (map f xs) (map g xs) (same 0 x (omega arith)) (map_alike f g xs (λ k d within. same (suc k) d (omega arith)))

pub map_both : {A B C : Type 0} (f : B → C) (g : A → B) (xs : List A) → map f (map g xs) ≡ map (λ x. f (g x)) xs
map_both f g [] = refl
map_both f g (x ∷ xs) = ap (λ ys. f (g x) ∷ ys) (map_both f g xs)

-- what holds of all members holds of each
pub all_from_members : {A : Type 0} (P : A → Type 0) (xs : List A) → ((x : A) → Contains xs x → P x) → All P xs
all_from_members P xs h k d below = h (get_or xs k d) (Contains-get_or xs k d below)

pub passes : {A : Type 0} (test : A → Bool) (xs : List A) (x : A) → list_all test xs ≡ true → Contains xs x → test x ≡ true
passes test xs x h among = All-contains (λ y. test y ≡ true) xs x (AllPass-from_list_all test xs h) among

-- P holds of each, and of one more
pub all_more : {X : Type 0} (P : X → Type 0) (xs : List X) (x : X) → AllByRecursion P xs → P x → AllByRecursion P (xs ++ x ∷ [])
all_more P [] x h hx = (hx, tt)
all_more P (y ∷ ys) x h hx = (h.0, all_more P ys x h.1 hx)
