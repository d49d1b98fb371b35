-- The members of a list by their places, and lists that agree index by index.
use Rattle.std.proofs.Common.{◌≡◌, ℕ, zero, suc, List, [], ◌∷◌, ◌++◌, take, drop, map, Option, Some, None, refl, sym, ◌∙◌, ap, subst, inl, inr, length, ◌≤◌, ◌<◌, ◌+◌, ◌⊎◌, get_or, arith}
use Rattle.std.specs.Prelude.{Contains, slice_get, option_map}
use Rattle.std.proofs.lemmas.Option.{slice_get-map, slice_get_past}
use Rattle.pa_lists.proofs.Members.{not_in_none, first_in, later_in, in_cases, of_some, not_some}

pub at_in : {A : Type 0} (xs : List A) (i : ℕ) (x : A) → slice_get xs i ≡ Some x → Contains xs x
at_in [] i x at = absurd (not_some x at)
at_in (y ∷ ys) zero x at = subst (λ z. Contains (y ∷ ys) z) (of_some y x at) (first_in y ys)
at_in (y ∷ ys) (suc i) x at = later_in y x ys (at_in ys i x at)

pub in_at : {A : Type 0} (xs : List A) (x : A) → Contains xs x → (i : ℕ) × (slice_get xs i ≡ Some x)
in_at [] x among = absurd (not_in_none x among)
in_at (y ∷ ys) x among = elim (in_cases y x ys among) [
  | inl e ↦ (0, ap Some e)
  | inr rest ↦ let (i, at) = in_at ys x rest in (suc i, at)
]

-- lists are one if they agree index by index
pub same_lists : {A : Type 0} (xs ys : List A) → ((i : ℕ) → slice_get xs i ≡ slice_get ys i) → xs ≡ ys
same_lists [] [] same = refl
same_lists [] (y ∷ ys) same = absurd (not_some y (same 0))
same_lists (x ∷ xs) [] same = absurd (not_some x (sym (same 0)))
same_lists (x ∷ xs) (y ∷ ys) same =
    let rest = same_lists xs ys (λ i. same (suc i)) in
    ap (λ z. z ∷ xs) (of_some x y (same 0)) ∙ ap (λ zs. y ∷ zs) rest

-- what is at a place of a mapped list
pub option_cases : {A B : Type 0} (f : A → B) (o : Option A) (y : B) → option_map f o ≡ Some y → (x : A) × (o ≡ Some x) × (f x ≡ y)
option_cases f None y e = absurd (not_some y e)
option_cases f (Some x) y e = (x, refl, of_some (f x) y e)

pub map_at : {A B : Type 0} (f : A → B) (xs : List A) (i : ℕ) (y : B) → slice_get (map f xs) i ≡ Some y → (x : A) ×
    (slice_get xs i ≡ Some x) × (f x ≡ y)
map_at f xs i y at = option_cases f (slice_get xs i) y (sym (slice_get-map f xs i) ∙ at)

pub at_map : {A B : Type 0} (f : A → B) (xs : List A) (i : ℕ) (x : A) → slice_get xs i ≡ Some x → slice_get (map f xs) i ≡ Some (f x)
at_map f xs i x at = slice_get-map f xs i ∙ ap (option_map f) at

-- what one place has
pub one_at : {A : Type 0} (xs : List A) (i : ℕ) (x y : A) → slice_get xs i ≡ Some x → slice_get xs i ≡ Some y → x ≡ y
one_at xs i x y at at' = of_some x y (sym at ∙ at')

-- what holds of one element holds of what has its place
pub shown : {A : Type 0} (P : A → Type 0) (x y : A) → P x → Some x ≡ Some y → P y
shown P x y h e = subst P (of_some x y e) h

-- the last place of a list that isn't empty
pub record IsEnd {A : Type 0} (xs : List A) : Type 0 where
  pub place : ℕ
  pub last : A
  pub at : slice_get xs place ≡ Some last
  pub parts : xs ≡ take place xs ++ last ∷ []

pub end_of : {A : Type 0} (x : A) (xs : List A) → IsEnd (x ∷ xs)
end_of x [] = record { place = 0; last = x; at = refl; parts = refl }
end_of x (y ∷ ys) =
    let rest = end_of y ys in
    record { place = suc rest.place; last = rest.last; at = rest.at; parts = ap (λ zs. x ∷ zs) rest.parts }

-- the parts of a list before and after a place
pub cut_at : {A : Type 0} (xs : List A) (i : ℕ) (x : A) → slice_get xs i ≡ Some x → xs ≡ take i xs ++ x ∷ drop (suc i) xs
cut_at [] i x at = absurd (not_some x at)
cut_at (y ∷ ys) zero x at = ap (λ z. z ∷ ys) (of_some y x at)
cut_at (y ∷ ys) (suc i) x at = ap (λ zs. y ∷ zs) (cut_at ys i x at)

pub none_past : {A : Type 0} (xs : List A) (i : ℕ) (x : A) → length xs ≤ i → slice_get xs i ≡ Some x → ⊥
none_past xs i x past at = not_some x (sym (slice_get_past xs i past) ∙ at)

pub slice_get_at : {A : Type 0} (xs ys : List A) (x : A) → slice_get (xs ++ x ∷ ys) (length xs) ≡ Some x
slice_get_at [] ys x = refl
slice_get_at (z ∷ zs) ys x = slice_get_at zs ys x

-- each place below the length has an element
pub element_at : {A : Type 0} (xs : List A) (i : ℕ) → i < length xs → (x : A) × (slice_get xs i ≡ Some x)
element_at [] i below = absurd (omega arith)
element_at (x ∷ xs) zero below = (x, refl)
element_at (x ∷ xs) (suc i) below = element_at xs i (omega arith)

-- get_or gives the element at such a place
pub here_is : {A : Type 0} (xs : List A) (i : ℕ) (d : A) → i < length xs → slice_get xs i ≡ Some (get_or xs i d)
here_is [] i d below = absurd (omega (arith, below))
here_is (x ∷ xs) zero d below = refl
here_is (x ∷ xs) (suc i) d below = here_is xs i d (omega (arith, below))

-- what is at a place of a list with one element more
pub push_at : {A : Type 0} (xs : List A) (x y : A) (i : ℕ) → slice_get (xs ++ x ∷ []) i ≡ Some y → (slice_get xs i ≡ Some y) ⊎
    ((i ≡ length xs) × (x ≡ y))
push_at [] x y zero at = inr (refl, of_some x y at)
push_at [] x y (suc i) at = absurd (not_some y at)
push_at (z ∷ zs) x y zero at = inl at
push_at (z ∷ zs) x y (suc i) at = elim (push_at zs x y i at) [
  | inl early ↦ inl early
  | inr (last, same) ↦ inr (ap suc last, same)
]
