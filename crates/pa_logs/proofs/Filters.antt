-- Lists that are filtered: their members, their pairs and their places.
use Rattle.std.proofs.Common.{◌≡◌, ℕ, zero, suc, ◌<◌, ◌≤◌, ◌⊎◌, Bool, true, ◌&&◌, List, [], ◌∷◌, ◌++◌, length, filter, map, slice_get, Some, refl, ◌∙◌, ap, subst, arith, inl, inr}
use Rattle.std.specs.Prelude.{Contains, AllPairs}
use Rattle.std.proofs.lemmas.Bool.{cases_Bool, both_ways}
use Rattle.pa_lists.proofs.Members.{not_in_none, first_in, later_in, in_cases, of_some}
use Rattle.pa_lists.proofs.Pairs.{pairs_none, pairs_cons, pairs_tail, pairs_head}
use Rattle.pa_lists.proofs.Joined.{filter_cases, filter_in}

module _ {A : Type 0} where
  -- a list of one has no rest
  rest_none : (x a : A) (xs : List A) → x ∷ xs ≡ a ∷ [] → xs ≡ []
  rest_none x a xs e = cc

  pub pairs_filter : (R : A → A → Type 0) (test : A → Bool) (xs : List A) → AllPairs R xs → AllPairs R (filter test xs)
  pairs_filter R test [] h = pairs_none R
  pairs_filter R test (x ∷ xs) h =
      let again = pairs_filter R test xs (pairs_tail R x xs h) in
      elim (cases_Bool (test x)) [
        | inl y ↦ rw y (pairs_cons R x (filter test xs) (λ z among. pairs_head R x z xs h (filter_cases test xs z among).0) again)
        | inr n ↦ rw n again
      ]

  pub pairs_all : (R : A → A → Type 0) (xs : List A) → ((x y : A) → Contains xs x → Contains xs y → R x y) → AllPairs R xs
  pairs_all R [] each = pairs_none R
  pairs_all R (x ∷ xs) each =
      pairs_cons R x xs (λ y among. each x y (first_in x xs) (later_in x y xs among))
      (pairs_all R xs (λ y z p q. each y z (later_in x y xs p) (later_in x z xs q)))

  -- if all members pass, and if none does
  pub filter_all : (test : A → Bool) (xs : List A) → ((x : A) → Contains xs x → test x ≡ true) → filter test xs ≡ xs
  filter_all test [] each = refl
  filter_all test (x ∷ xs) each =
      rw (each x (first_in x xs)) (ap (λ ys. x ∷ ys) (filter_all test xs (λ y among. each y (later_in x y xs among))))

  pub filter_none : (test : A → Bool) (xs : List A) → ((x : A) → Contains xs x → test x ≡ true → ⊥) → filter test xs ≡ []
  filter_none test [] none = refl
  filter_none test (x ∷ xs) none = elim (cases_Bool (test x)) [
    | inl y ↦ absurd (none x (first_in x xs) y)
    | inr n ↦ rw n (filter_none test xs (λ z among. none z (later_in x z xs among)))
  ]

  -- what passes the one test passes the other
  pub filter_within : (f g : A → Bool) (xs : List A) → ((x : A) → Contains xs x → f x ≡ true → g x ≡ true) →
      filter f (filter g xs) ≡ filter f xs
  filter_within f g [] each = refl
  filter_within f g (x ∷ xs) each =
      let again = filter_within f g xs (λ y among. each y (later_in x y xs among)) in
      elim (cases_Bool (g x)) [
        | inl y ↦ elim (cases_Bool (f x)) [
          | inl z ↦ rw (y, z) (ap (λ ys. x ∷ ys) again)
          | inr m ↦ rw (y, m) again
        ]
        | inr n ↦ elim (cases_Bool (f x)) [
          | inl z ↦ absurd (both_ways _ n (each x (first_in x xs) z))
          | inr m ↦ rw (n, m) again
        ]
      ]

  -- a member by its place
  pub get_in : (xs : List A) (i : ℕ) (x : A) → slice_get xs i ≡ Some x → Contains xs x
  get_in [] i x e = absurd cc
  get_in (y ∷ ys) zero x e = subst (λ z. Contains (y ∷ ys) z) (of_some y x e) (first_in y ys)
  get_in (y ∷ ys) (suc i) x e = later_in y x ys (get_in ys i x e)

  pub get_pair : (R : A → A → Type 0) (xs : List A) (i j : ℕ) (x y : A) → AllPairs R xs → i < j → slice_get xs i ≡ Some x →
      slice_get xs j ≡ Some y → R x y
  get_pair R [] i j x y h less e f = absurd cc
  get_pair R (z ∷ zs) i zero x y h less e f = absurd (omega arith)
  get_pair R (z ∷ zs) zero (suc j) x y h less e f = subst (λ u. R u y) (of_some z x e) (pairs_head R z y zs h (get_in zs j y f))
  get_pair R (z ∷ zs) (suc i) (suc j) x y h less e f = get_pair R zs i j x y (pairs_tail R z zs h) (omega arith) e f

  -- a place of two lists is one of the first, or of the second
  pub get_parts : (xs ys : List A) (i : ℕ) (x : A) → slice_get (xs ++ ys) i ≡ Some x → ((i < length xs) × Contains xs x) ⊎
      ((length xs ≤ i) × Contains ys x)
  get_parts [] ys i x e = inr (omega arith, get_in ys i x e)
  get_parts (z ∷ zs) ys zero x e = inl (omega arith, subst (λ u. Contains (z ∷ zs) u) (of_some z x e) (first_in z zs))
  get_parts (z ∷ zs) ys (suc i) x e = elim (get_parts zs ys i x e) [
    | inl a ↦ let low = a.0 in inl (omega arith, later_in z x zs a.1)
    | inr b ↦ let high = b.0 in inr (omega arith, b.1)
  ]

  -- a member's place
  pub place_at : (xs : List A) (x : A) → Contains xs x → (i : ℕ) × (slice_get xs i ≡ Some x)
  place_at [] x among = absurd (not_in_none x among)
  place_at (y ∷ ys) x among = elim (in_cases y x ys among) [
    | inl same ↦ (0, ap (λ z. Some z) same)
    | inr later ↦ let (i, at) = place_at ys x later in (suc i, at)
  ]

  -- of a list of one there is one member
  pub only_one : (a x : A) → Contains (a ∷ []) x → a ≡ x
  only_one a x among = elim (in_cases a x [] among) [ inl same ↦ same | inr later ↦ absurd (not_in_none x later) ]

  -- if one member passes, one place has such a member
  pub one_place : (test : A → Bool) (xs : List A) (a : A) (i k : ℕ) (x y : A) → filter test xs ≡ a ∷ [] → slice_get xs i ≡ Some x →
      slice_get xs k ≡ Some y →
      test x ≡ true → test y ≡ true → i ≡ k
  one_place test [] a i k x y e at_i at_k passes also = absurd cc
  one_place test (z ∷ zs) a zero zero x y e at_i at_k passes also = refl
  one_place test (z ∷ zs) a zero (suc k) x y e at_i at_k passes also =
      let t : test z ≡ true = ap test (of_some z x at_i) ∙ passes in
      let none : filter test zs ≡ [] = rest_none z a (filter test zs) (rw t at e) in
      absurd (not_in_none y (subst (λ ys. Contains ys y) none (filter_in test zs y (get_in zs k y at_k) also)))
  one_place test (z ∷ zs) a (suc i) zero x y e at_i at_k passes also =
      let t : test z ≡ true = ap test (of_some z y at_k) ∙ also in
      let none : filter test zs ≡ [] = rest_none z a (filter test zs) (rw t at e) in
      absurd (not_in_none x (subst (λ ys. Contains ys x) none (filter_in test zs x (get_in zs i x at_i) passes)))
  one_place test (z ∷ zs) a (suc i) (suc k) x y e at_i at_k passes also = elim (cases_Bool (test z)) [
    | inl t ↦
        let none : filter test zs ≡ [] = rest_none z a (filter test zs) (rw t at e) in
        absurd (not_in_none x (subst (λ ys. Contains ys x) none (filter_in test zs x (get_in zs i x at_i) passes)))
    | inr n ↦ ap suc (one_place test zs a i k x y (rw n at e) at_i at_k passes also)
  ]

  -- two tests, one after the other
  pub filter_both : (f g : A → Bool) (xs : List A) → filter g (filter f xs) ≡ filter (λ x. f x && g x) xs
  filter_both f g [] = refl
  filter_both f g (x ∷ xs) = elim (cases_Bool (f x)) [
    | inl y ↦ elim (cases_Bool (g x)) [
      | inl z ↦ rw (y, z) (ap (λ ys. x ∷ ys) (filter_both f g xs))
      | inr m ↦ rw (y, m) (filter_both f g xs)
    ]
    | inr n ↦ rw n (filter_both f g xs)
  ]

  -- nothing more, if a list is the first part of itself
  pub nothing_more : (xs ys : List A) → xs ++ ys ≡ xs → ys ≡ []
  nothing_more [] ys e = e
  nothing_more (x ∷ xs) ys e = nothing_more xs ys cc

-- a map by which different members have different images
pub map_one : {A B : Type 0} (f : A → B) (xs ys : List A) → ((x y : A) → f x ≡ f y → x ≡ y) → map f xs ≡ map f ys → xs ≡ ys
map_one f [] [] one e = refl
map_one f [] (y ∷ ys) one e = absurd cc
map_one f (x ∷ xs) [] one e = absurd cc
map_one f (x ∷ xs) (y ∷ ys) one e =
    let head : f x ≡ f y = cc in
    let tail : map f xs ≡ map f ys = cc in
    let a = one x y head in
    let b = map_one f xs ys one tail in
    ap (λ z. z ∷ xs) a ∙ ap (λ zs. y ∷ zs) b
