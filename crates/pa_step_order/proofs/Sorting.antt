-- A list in the order of a number that each member has. Those with the same number stay in their order.
use Rattle.std.proofs.Common.{◌≡◌, ℕ, ◌+◌, ◌<◌, ◌≤◌, leb, cond, List, [], ◌∷◌, Option, Some, None, refl, sym, ◌∙◌, ap, subst, arith, inl, inr}
use Rattle.std.specs.Prelude.{Contains, AllPairs}
use Rattle.std.specs.List.{cons_option, filter_map, sum_by}
use Rattle.std.proofs.lemmas.Bool.{cases_lt, le-leb, lt-leb}
use Rattle.std.proofs.lemmas.List.Sums.{sum_by-cons}
use Rattle.pa_lists.proofs.Members.{not_in_none, first_in, later_in, in_cases}
use Rattle.pa_lists.proofs.Pairs.{pairs_none, pairs_cons, pairs_tail, pairs_head}
use Rattle.pa_timeline.proofs.Kept.{none_or_some, kept_from, OfKept}

module _ {A : Type 0} (key : A → ℕ) where
  -- a list with x before the first member that has no lesser number
  abbrev pub inserted : A → List A → List A
  inserted x [] = x ∷ []
  inserted x (y ∷ ys) = cond (leb (key x) (key y)) (x ∷ y ∷ ys) (y ∷ inserted x ys)

  abbrev pub sorted : List A → List A
  sorted [] = []
  sorted (x ∷ xs) = inserted x (sorted xs)

  -- ---- the same members

  inserted_from : (x z : A) (ys : List A) → Contains (inserted x ys) z → Contains (x ∷ ys) z
  inserted_from x z [] among = among
  inserted_from x z (y ∷ ys) among = elim (cases_lt (key y) (key x)) [
    | inl less ↦ elim (in_cases y z (inserted x ys) (rw (lt-leb (key x) (key y) less) at among)) [
      | inl same ↦ later_in x z (y ∷ ys) (subst (λ u. Contains (y ∷ ys) u) same (first_in y ys))
      | inr rest ↦ elim (in_cases x z ys (inserted_from x z ys rest)) [
        | inl same ↦ subst (λ u. Contains (x ∷ y ∷ ys) u) same (first_in x (y ∷ ys))
        | inr later ↦ later_in x z (y ∷ ys) (later_in y z ys later)
      ]
    ]
    | inr more ↦ rw (le-leb (key x) (key y) more) at among
  ]

  pub sorted_from : (z : A) (xs : List A) → Contains (sorted xs) z → Contains xs z
  sorted_from z [] among = among
  sorted_from z (x ∷ xs) among = elim (in_cases x z (sorted xs) (inserted_from x z (sorted xs) among)) [
    | inl same ↦ subst (λ u. Contains (x ∷ xs) u) same (first_in x xs)
    | inr rest ↦ later_in x z xs (sorted_from z xs rest)
  ]

  inserted_sum : (f : A → ℕ) (x : A) (ys : List A) → sum_by f (inserted x ys) ≡ f x + sum_by f ys
  inserted_sum f x [] = sum_by-cons f x []
  inserted_sum f x (y ∷ ys) =
      let again = inserted_sum f x ys in
      let a = sum_by-cons f y (inserted x ys) in
      let b = sum_by-cons f y ys in
      let c = sum_by-cons f x (y ∷ ys) in
      elim (cases_lt (key y) (key x)) [
        | inl less ↦ rw (lt-leb (key x) (key y) less) (omega arith)
        | inr more ↦ rw (le-leb (key x) (key y) more) c
      ]

  pub sorted_sum : (f : A → ℕ) (xs : List A) → sum_by f (sorted xs) ≡ sum_by f xs
  sorted_sum f [] = refl
  sorted_sum f (x ∷ xs) =
      let again = sorted_sum f xs in
      let a = inserted_sum f x (sorted xs) in
      let b = sum_by-cons f x xs in
      omega arith

  -- ---- in the order of the number

  abbrev pub Rises : A → A → Type 0
  Rises a b = key a ≤ key b

  inserted_rises : (x : A) (ys : List A) → AllPairs Rises ys → AllPairs Rises (inserted x ys)
  inserted_rises x [] h = pairs_cons Rises x [] (λ z among. absurd (not_in_none z among)) h
  inserted_rises x (y ∷ ys) h = elim (cases_lt (key y) (key x)) [
    | inl less ↦ rw (lt-leb (key x) (key y) less) (pairs_cons Rises y (inserted x ys)
        (λ z among. elim (in_cases x z ys (inserted_from x z ys among)) [
          | inl same ↦ let e = ap key same in omega arith
          | inr rest ↦ pairs_head Rises y z ys h rest
        ])
        (inserted_rises x ys (pairs_tail Rises y ys h)))
    | inr more ↦ rw (le-leb (key x) (key y) more) (pairs_cons Rises x (y ∷ ys)
        (λ z among. elim (in_cases y z ys among) [
          | inl same ↦ let e = ap key same in omega arith
          | inr rest ↦ let up = pairs_head Rises y z ys h rest in omega arith
        ])
        h)
  ]

  pub sorted_rises : (xs : List A) → AllPairs Rises (sorted xs)
  sorted_rises [] = pairs_none Rises
  sorted_rises (x ∷ xs) = inserted_rises x (sorted xs) (sorted_rises xs)

  -- ---- what the order keeps

  -- what holds of each two holds of them in the new order, if it holds the other way round whenever the number says so
  inserted_pairs : (S : A → A → Type 0) (x : A) (ys : List A) → AllPairs S ys → ((y : A) → Contains ys y → S x y) →
      ((y : A) → Contains ys y → S x y → key y < key x → S y x) → AllPairs S (inserted x ys)
  inserted_pairs S x [] h first turn = pairs_cons S x [] first h
  inserted_pairs S x (y ∷ ys) h first turn = elim (cases_lt (key y) (key x)) [
    | inl less ↦ rw (lt-leb (key x) (key y) less) (pairs_cons S y (inserted x ys)
        (λ z among. elim (in_cases x z ys (inserted_from x z ys among)) [
          | inl same ↦ subst (λ u. S y u) same (turn y (first_in y ys) (first y (first_in y ys)) less)
          | inr rest ↦ pairs_head S y z ys h rest
        ])
        (inserted_pairs S x ys (pairs_tail S y ys h) (λ z among. first z (later_in y z ys among))
        (λ z among. turn z (later_in y z ys among))))
    | inr more ↦ rw (le-leb (key x) (key y) more) (pairs_cons S x (y ∷ ys) first h)
  ]

  pub sorted_pairs : (S : A → A → Type 0) (xs : List A) → AllPairs S xs →
      ((a b : A) → Contains xs a → Contains xs b → S b a → key a < key b → S a b) → AllPairs S (sorted xs)
  sorted_pairs S [] h turn = pairs_none S
  sorted_pairs S (x ∷ xs) h turn =
      inserted_pairs S x (sorted xs)
      (sorted_pairs S xs (pairs_tail S x xs h) (λ a b first second. turn a b (later_in x a xs first) (later_in x b xs second)))
      (λ y among. pairs_head S x y xs h (sorted_from y xs among))
      (λ y among. turn y x (later_in x y xs (sorted_from y xs among)) (first_in x xs))

  -- if the number doesn't fall along what a filter keeps, it keeps the same
  module _ {B : Type 0} (f : A → Option B) where
    abbrev pub KeptRises : A → A → Type 0
    KeptRises a b = OfKept f (λ u v. key a ≤ key b) a b

    pub inserted_none : (x : A) (ys : List A) → f x ≡ None → filter_map f (inserted x ys) ≡ filter_map f ys
    inserted_none x [] none = rw none refl
    inserted_none x (y ∷ ys) none = elim (cases_lt (key y) (key x)) [
      | inl less ↦ rw (lt-leb (key x) (key y) less) (ap (cons_option (f y)) (inserted_none x ys none))
      | inr more ↦ rw (le-leb (key x) (key y) more, none) refl
    ]

    inserted_some : (x : A) (u : B) (ys : List A) → f x ≡ Some u → ((y : A) (v : B) → Contains ys y → f y ≡ Some v → key x ≤ key y) →
        filter_map f (inserted x ys) ≡ u ∷ filter_map f ys
    inserted_some x u [] is up = rw is refl
    inserted_some x u (y ∷ ys) is up = elim (cases_lt (key y) (key x)) [
      | inl less ↦ elim (none_or_some (f y)) [
        | inl none ↦ rw (lt-leb (key x) (key y) less, none) (inserted_some x u ys is (λ z v among. up z v (later_in y z ys among)))
        | inr (v, same) ↦ absurd (let high = up y v (first_in y ys) same in omega arith)
      ]
      | inr more ↦ rw (le-leb (key x) (key y) more, is) refl
    ]

    pub sorted_kept : (xs : List A) → AllPairs KeptRises xs → filter_map f (sorted xs) ≡ filter_map f xs
    sorted_kept [] h = refl
    sorted_kept (x ∷ xs) h =
        let again = sorted_kept xs (pairs_tail KeptRises x xs h) in
        elim (none_or_some (f x)) [
          | inl none ↦ inserted_none x (sorted xs) none ∙ again ∙ sym (ap (λ o. cons_option o (filter_map f xs)) none)
          | inr (u, is) ↦
              inserted_some x u (sorted xs) is (λ y v among same. pairs_head KeptRises x y xs h (sorted_from y xs among) u v is same)
              ∙ ap (λ ys. u ∷ ys) again ∙ sym (ap (λ o. cons_option o (filter_map f xs)) is)
        ]

-- ---- a filter that keeps members as they are

module _ {A : Type 0} (key : A → ℕ) (f : A → Option A) (stays : (x y : A) → f x ≡ Some y → x ≡ y) where
  -- the least goes to the front
  in_front : (x : A) (ys : List A) → ((y : A) → Contains ys y → key x ≤ key y) → inserted key x ys ≡ x ∷ ys
  in_front x [] low = refl
  in_front x (y ∷ ys) low = rw (le-leb (key x) (key y) (low y (first_in y ys))) refl

  inserted_through : (x : A) (ys : List A) → f x ≡ Some x → AllPairs (Rises key) ys →
      filter_map f (inserted key x ys) ≡ inserted key x (filter_map f ys)
  inserted_through x [] is up = rw is refl
  inserted_through x (y ∷ ys) is up = elim (cases_lt (key y) (key x)) [
    | inl less ↦
        let again = inserted_through x ys is (pairs_tail (Rises key) y ys up) in
        elim (none_or_some (f y)) [
          | inl none ↦ rw (lt-leb (key x) (key y) less, none) again
          | inr (z, same) ↦
              let low : key z < key x = subst (λ w. key w < key x) (stays y z same) less in
              rw (lt-leb (key x) (key y) less, same, lt-leb (key x) (key z) low) (ap (λ zs. z ∷ zs) again)
        ]
    | inr more ↦
        let rest = filter_map f (y ∷ ys) in
        let low : (z : A) → Contains rest z → key x ≤ key z = λ z among.
        (let (w, there, same) = kept_from f (y ∷ ys) z among in
        subst (λ u. key x ≤ key u) (stays w z same) (elim (in_cases y w ys there) [
          | inl e ↦ subst (λ u. key x ≤ key u) e more
          | inr later ↦ let high = pairs_head (Rises key) y w ys up later in omega arith
        ])) in
        rw (le-leb (key x) (key y) more) (ap (λ o. cons_option o rest) is ∙ sym (in_front x rest low))
  ]

  -- what is kept of a sorted list is sorted
  pub sorted_through : (xs : List A) → filter_map f (sorted key xs) ≡ sorted key (filter_map f xs)
  sorted_through [] = refl
  sorted_through (x ∷ xs) = elim (none_or_some (f x)) [
    | inl none ↦ inserted_none key f x (sorted key xs) none ∙ sorted_through xs ∙
        sym (ap (λ o. sorted key (cons_option o (filter_map f xs))) none)
    | inr (y, is) ↦
        let same = stays x y is in
        inserted_through x (sorted key xs) (is ∙ ap Some (sym same)) (sorted_rises key xs) ∙ ap (inserted key x) (sorted_through xs)
        ∙ ap (λ z. inserted key z (sorted key (filter_map f xs))) same ∙ sym (ap (λ o. sorted key (cons_option o (filter_map f xs))) is)
  ]
