-- Lists of which a filter keeps a part: where a kept member comes from, and what holds of each two.
use Rattle.std.proofs.Common.{◌≡◌, ℕ, ◌+◌, Bool, true, false, cond, List, [], ◌∷◌, ◌++◌, filter, Option, Some, None, ◌⊎◌, refl, sym, ◌∙◌, ap, subst, arith, inl, inr}
use Rattle.std.specs.Prelude.{Contains, AllPairs, count_by, option_and_then}
use Rattle.std.specs.List.{cons_option, filter_map}
use Rattle.std.proofs.lemmas.Bool.{cases_Bool, true≢false}
use Rattle.std.proofs.lemmas.List.Sums.{sum_by-cons, sum_by-append}
use Rattle.pa_lists.proofs.Members.{not_in_none, first_in, later_in, in_cases, of_some}
use Rattle.pa_lists.proofs.Pairs.{pairs_none, pairs_cons, pairs_tail, pairs_head}

pub none_or_some : {A : Type 0} (o : Option A) → (o ≡ None) ⊎ ((x : A) × (o ≡ Some x))
none_or_some None = inl refl
none_or_some (Some x) = inr (x, refl)

module _ {A B : Type 0} (f : A → Option B) where
  -- a kept member is of one of the list
  pub kept_from : (xs : List A) (y : B) → Contains (filter_map f xs) y → (x : A) × Contains xs x × (f x ≡ Some y)
  kept_from [] y among = absurd (not_in_none y among)
  kept_from (x ∷ xs) y among = elim (none_or_some (f x)) [
    | inl none ↦ let (z, member, same) = kept_from xs y (rw none at among) in (z, later_in x z xs member, same)
    | inr (u, is) ↦ elim (in_cases u y (filter_map f xs) (rw is at among)) [
      | inl here ↦ (x, first_in x xs, is ∙ ap Some here)
      | inr rest ↦ let (z, member, same) = kept_from xs y rest in (z, later_in x z xs member, same)
    ]
  ]

  pub kept_in : (xs : List A) (x : A) (y : B) → Contains xs x → f x ≡ Some y → Contains (filter_map f xs) y
  kept_in [] x y among is = absurd (not_in_none x among)
  kept_in (z ∷ xs) x y among is = elim (in_cases z x xs among) [
    | inl here ↦ rw (ap f here ∙ is) (first_in y (filter_map f xs))
    | inr rest ↦
        let there = kept_in xs x y rest is in
        elim (none_or_some (f z)) [
          | inl none ↦ rw none there
          | inr (u, same) ↦ rw same (later_in u y (filter_map f xs) there)
        ]
  ]

  none_more : (x : A) (before : List A) (us : List B) → f x ≡ None → filter_map f before ≡ us → filter_map f (x ∷ before) ≡ us
  none_more x before us none left = ap (λ o. cons_option o (filter_map f before)) none ∙ left

  one_more : (x : A) (before : List A) (w u : B) (us : List B) → f x ≡ Some w → w ≡ u → filter_map f before ≡ us →
      filter_map f (x ∷ before) ≡ u ∷ us
  one_more x before w u us is head left = ap (λ o. cons_option o (filter_map f before)) (is ∙ ap Some head) ∙ ap (λ zs. u ∷ zs) left

  -- the list is cut where what is kept is cut
  pub kept_cut : (xs : List A) (us vs : List B) (y : B) → filter_map f xs ≡ us ++ y ∷ vs →
      (before : List A) × (x : A) × (after : List A) × (xs ≡ before ++ x ∷ after) × (f x ≡ Some y) × (filter_map f before ≡ us)
  kept_cut [] [] vs y e = absurd cc
  kept_cut [] (u ∷ us) vs y e = absurd cc
  kept_cut (x ∷ xs) [] vs y e = elim (none_or_some (f x)) [
    | inl none ↦
        let (before, z, after, parts, same, left) = kept_cut xs [] vs y (rw none at e) in
        (x ∷ before, z, after, ap (λ zs. x ∷ zs) parts, same, none_more x before _ none left)
    | inr (w, is) ↦
        let cut : w ∷ filter_map f xs ≡ y ∷ vs = rw is at e in
        let head : w ≡ y = cc in
        ([], x, xs, refl, is ∙ ap Some head, refl)
  ]
  kept_cut (x ∷ xs) (u ∷ us) vs y e = elim (none_or_some (f x)) [
    | inl none ↦
        let (before, z, after, parts, same, left) = kept_cut xs (u ∷ us) vs y (rw none at e) in
        (x ∷ before, z, after, ap (λ zs. x ∷ zs) parts, same, none_more x before _ none left)
    | inr (w, is) ↦
        let cut : w ∷ filter_map f xs ≡ u ∷ (us ++ y ∷ vs) = rw is at e in
        let head : w ≡ u = cc in
        let tail : filter_map f xs ≡ us ++ y ∷ vs = cc in
        let (before, z, after, parts, same, left) = kept_cut xs us vs y tail in
        (x ∷ before, z, after, ap (λ zs. x ∷ zs) parts, same, one_more x before w u us is head left)
  ]

  -- what holds of each two holds of what is kept of them
  pub kept_pairs : (R : A → A → Type 0) (S : B → B → Type 0) (xs : List A) → AllPairs R xs →
      ((a b : A) (u v : B) → Contains xs a → Contains xs b → R a b → f a ≡ Some u → f b ≡ Some v → S u v) → AllPairs S (filter_map f xs)
  kept_pairs R S [] pairs h = pairs_none S
  kept_pairs R S (x ∷ xs) pairs h =
      let again = kept_pairs R S xs (pairs_tail R x xs pairs)
      (λ a b u v first second. h a b u v (later_in x a xs first) (later_in x b xs second)) in
      elim (none_or_some (f x)) [
        | inl none ↦ rw none again
        | inr (u, is) ↦ rw is (pairs_cons S u (filter_map f xs)
            (λ v among. let (b, member, same) = kept_from xs v among in
            h x b u v (first_in x xs) (later_in x b xs member) (pairs_head R x b xs pairs member) is same)
            again)
      ]

  -- S holds of what the filter keeps of a and of b, if it keeps both
  abbrev pub OfKept : (B → B → Type 0) → A → A → Type 0
  OfKept S a b = (u v : B) → f a ≡ Some u → f b ≡ Some v → S u v

  pub pairs_kept : (S : B → B → Type 0) (xs : List A) → AllPairs S (filter_map f xs) → AllPairs (OfKept S) xs
  pairs_kept S [] pairs = pairs_none (OfKept S)
  pairs_kept S (x ∷ xs) pairs = elim (none_or_some (f x)) [
    | inl none ↦ pairs_cons (OfKept S) x xs (λ b among u v is same. absurd (let both : None ≡ Some u = sym none ∙ is in cc))
        (pairs_kept S xs (rw none at pairs))
    | inr (w, here) ↦
        let rest : AllPairs S (w ∷ filter_map f xs) = rw here at pairs in
        pairs_cons (OfKept S) x xs
        (λ b among u v is same. subst (λ z. S z v) (of_some w u (sym here ∙ is))
        (pairs_head S w v (filter_map f xs) rest (kept_in xs b v among same)))
        (pairs_kept S xs (pairs_tail S w (filter_map f xs) rest))
  ]

-- filters, one after the other
pub kept_twice : {A B C : Type 0} (g : B → Option C) (f : A → Option B) (xs : List A) →
    filter_map g (filter_map f xs) ≡ filter_map (λ x. option_and_then g (f x)) xs
kept_twice g f [] = refl
kept_twice g f (x ∷ xs) = elim (none_or_some (f x)) [
  | inl none ↦ rw none (kept_twice g f xs)
  | inr (u, is) ↦ rw is (ap (cons_option (g u)) (kept_twice g f xs))
]

-- filters that agree on the members
pub kept_same : {A B : Type 0} (f g : A → Option B) (xs : List A) → ((x : A) → Contains xs x → f x ≡ g x) →
    filter_map f xs ≡ filter_map g xs
kept_same f g [] h = refl
kept_same f g (x ∷ xs) h =
    ap (λ o. cons_option o (filter_map f xs)) (h x (first_in x xs)) ∙
    ap (cons_option (g x)) (kept_same f g xs (λ y among. h y (later_in x y xs among)))

-- what is kept of those that pass a test
pub kept_passing : {A B : Type 0} (f : A → Option B) (test : A → Bool) (xs : List A) →
    ((x : A) (y : B) → Contains xs x → f x ≡ Some y → test x ≡ true) →
    filter_map f (filter test xs) ≡ filter_map f xs
kept_passing f test [] h = refl
kept_passing f test (x ∷ xs) h =
    let again = kept_passing f test xs (λ z y among. h z y (later_in x z xs among)) in
    elim (cases_Bool (test x)) [
      | inl passes ↦ rw passes (ap (cons_option (f x)) again)
      | inr misses ↦ elim (none_or_some (f x)) [
        | inl none ↦ rw (misses, none) again
        | inr (y, is) ↦ absurd (true≢false (sym (h x y (first_in x xs) is) ∙ misses))
      ]
    ]

-- ---- how many pass

pub count_cons : {A : Type 0} (test : A → Bool) (x : A) (xs : List A) →
    count_by test (x ∷ xs) ≡ cond {A = ℕ} (test x) 1 0 + count_by test xs
count_cons test x xs = sum_by-cons (λ y. cond {A = ℕ} (test y) 1 0) x xs

pub count_append : {A : Type 0} (test : A → Bool) (xs ys : List A) → count_by test (xs ++ ys) ≡ count_by test xs + count_by test ys
count_append test xs ys = sum_by-append (λ y. cond {A = ℕ} (test y) 1 0) xs ys

count_same : {A : Type 0} (f g : A → Bool) (xs : List A) → ((x : A) → Contains xs x → f x ≡ g x) → count_by f xs ≡ count_by g xs
count_same f g [] h = refl
count_same f g (x ∷ xs) h =
    let a = count_cons f x xs in
    let b = count_cons g x xs in
    let same : cond {A = ℕ} (f x) 1 0 ≡ cond {A = ℕ} (g x) 1 0 = ap (λ t. cond {A = ℕ} t 1 0) (h x (first_in x xs)) in
    let again = count_same f g xs (λ y among. h y (later_in x y xs among)) in
    omega arith

count_none : {A : Type 0} (test : A → Bool) (xs : List A) → ((x : A) → Contains xs x → test x ≡ false) → count_by test xs ≡ 0
count_none test [] h = refl
count_none test (x ∷ xs) h =
    let a = count_cons test x xs in
    let here : cond {A = ℕ} (test x) 1 0 ≡ 0 = ap (λ t. cond {A = ℕ} t 1 0) (h x (first_in x xs)) in
    let again = count_none test xs (λ y among. h y (later_in x y xs among)) in
    omega arith

-- If those before a member that pass the one test pass the other, and no others do, then the other is passed as often as the one is before
-- it.
pub count_before : {A : Type 0} (test both : A → Bool) (us vs : List A) (x : A) → ((u : A) → Contains us u → both u ≡ test u) →
    both x ≡ false →
    ((v : A) → Contains vs v → both v ≡ false) → count_by both (us ++ x ∷ vs) ≡ count_by test us
count_before test both us vs x front here back =
    let parted = count_append both us (x ∷ vs) in
    let a = count_same both test us front in
    let b = count_cons both x vs in
    let c : cond {A = ℕ} (both x) 1 0 ≡ 0 = ap (λ t. cond {A = ℕ} t 1 0) here in
    let d = count_none both vs back in
    omega arith
