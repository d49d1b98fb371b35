-- Lists in the order of their lines: what comes before a line, on it and past it.
use Rattle.std.proofs.Common.{◌≡◌, ℕ, zero, suc, ◌+◌, ◌<◌, ◌≤◌, List, [], ◌∷◌, ◌++◌, length, map, drop, get_or, Some, refl, sym, ◌∙◌, ap, subst, arith, inl, inr, ◌⊎◌}
use Rattle.std.specs.Prelude.{Contains, ◌==◌, nat_lt, slice_get}
use Rattle.std.specs.List.Sorted.{IsNonDecreasingBy, IsStrictlyIncreasing}
use Rattle.std.proofs.lemmas.List.{length-map, get_or-map}
use Rattle.std.proofs.lemmas.List.Kept.{AllPairs-from_increasing}
use Rattle.std.proofs.lemmas.Bool.{cases_lt, cases_eq, eq-eqb, ne_eqb, eqb-true, lt-ltb, le-ltb, ltb-true}
use Rattle.std.proofs.lemmas.Option.{slice_get-get_or}
use Rattle.pa_lists.proofs.Members.{not_in_none, first_in, later_in, in_cases, of_some, not_some}
use Rattle.pa_lists.proofs.Joined.{filter_cases, filter_in}
use Rattle.pa_record.proofs.Filtered.{filter_all, filter_none}
use Rattle.pa_one_run.specs.Before.{below, on, past}
use Rattle.pa_lists.proofs.Elements.{both_parts}
use Rattle.pa_lists.proofs.Indexed.{in_at, at_in}

-- if the lines of a list don't fall, those after its first one don't either
pub rising_tail : {A : Type 0} (f : A → ℕ) (x : A) (xs : List A) → IsNonDecreasingBy f (x ∷ xs) → IsNonDecreasingBy f xs
rising_tail f x xs h i j d low below' = h (suc i) (suc j) d (omega arith) (omega arith)

pub rising_head : {A : Type 0} (f : A → ℕ) (x y : A) (xs : List A) → IsNonDecreasingBy f (x ∷ xs) → Contains xs y → f x ≤ f y
rising_head f x y xs h (k, few, e) =
    let a = h 0 (suc k) y (omega arith) (omega arith) in
    let b : f (get_or xs k y) ≡ f y = ap f e in
    omega arith

-- ---- membership

pub in_below : {A : Type 0} (f : A → ℕ) (n : ℕ) (xs : List A) (x : A) → Contains (below f n xs) x → Contains xs x × (f x < n)
in_below f n xs x among = let (member, passes) = filter_cases (λ y. nat_lt (f y) n) xs x among in (member, ltb-true _ _ passes)

pub in_on : {A : Type 0} (f : A → ℕ) (n : ℕ) (xs : List A) (x : A) → Contains (on f n xs) x → Contains xs x × (f x ≡ n)
in_on f n xs x among = let (member, passes) = filter_cases (λ y. f y == n) xs x among in (member, eqb-true _ _ passes)

pub on_in : {A : Type 0} (f : A → ℕ) (n : ℕ) (xs : List A) (x : A) → Contains xs x → f x ≡ n → Contains (on f n xs) x
on_in f n xs x among same = filter_in (λ y. f y == n) xs x among (eq-eqb _ _ same)

pub below_none : {A : Type 0} (f : A → ℕ) (n : ℕ) (xs : List A) → ((x : A) → Contains xs x → n ≤ f x) → below f n xs ≡ []
below_none f n xs h = filter_none (λ y. nat_lt (f y) n) xs (λ x among. le-ltb _ _ (h x among))

pub below_all : {A : Type 0} (f : A → ℕ) (n : ℕ) (xs : List A) → ((x : A) → Contains xs x → f x < n) → below f n xs ≡ xs
below_all f n xs h = filter_all (λ y. nat_lt (f y) n) xs (λ x among. lt-ltb _ _ (h x among))

pub on_none : {A : Type 0} (f : A → ℕ) (n : ℕ) (xs : List A) → ((x : A) → Contains xs x → f x ≡ n → ⊥) → on f n xs ≡ []
on_none f n xs h = filter_none (λ y. f y == n) xs (λ x among. ne_eqb _ _ (h x among))

pub past_all : {A : Type 0} (f : A → ℕ) (n : ℕ) (xs : List A) → ((x : A) → Contains xs x → n < f x) → past f n xs ≡ xs
past_all f n xs h = filter_all (λ y. nat_lt n (f y)) xs (λ x among. lt-ltb _ _ (h x among))

-- ---- in the order of the lines

-- a list is what comes before a line, what is on it, and what comes past it
pub below_on_past : {A : Type 0} (f : A → ℕ) (n : ℕ) (xs : List A) → IsNonDecreasingBy f xs → xs ≡ below f n xs ++ on f n xs ++ past f n xs
below_on_past f n [] h = refl
below_on_past f n (x ∷ xs) h = elim (cases_lt (f x) n) [
  | inl less ↦ rw (lt-ltb _ _ less, ne_eqb (f x) n (λ e. omega arith), le-ltb n (f x) (omega arith))
      (ap (λ ys. x ∷ ys) (below_on_past f n xs (rising_tail f x xs h)))
  | inr from ↦
      let none : below f n xs ≡ [] = below_none f n xs (λ y among. let up = rising_head f x y xs h among in omega arith) in
      elim (cases_eq (f x) n) [
        | inl e ↦
            let ih : xs ≡ below f n xs ++ on f n xs ++ past f n xs = below_on_past f n xs (rising_tail f x xs h) in
            let rest : xs ≡ on f n xs ++ past f n xs = ih ∙ ap (λ ys. ys ++ on f n xs ++ past f n xs) none in
            rw (le-ltb _ _ from, eq-eqb (f x) n e, le-ltb n (f x) (omega arith), none) (ap (λ ys. x ∷ ys) rest)
        | inr ne ↦
            let above : n < f x = omega arith in
            let no : on f n xs ≡ [] = on_none f n xs (λ y among same. let up = rising_head f x y xs h among in omega arith) in
            let all : past f n xs ≡ xs = past_all f n xs (λ y among. let up = rising_head f x y xs h among in omega arith) in
            rw (le-ltb _ _ from, ne_eqb (f x) n ne, lt-ltb n (f x) above, none, no, all) refl
      ]
]

-- what comes before the next line
pub below_next : {A : Type 0} (f : A → ℕ) (n m : ℕ) (xs : List A) → n < m → ((x : A) → Contains xs x → n < f x → m ≤ f x) →
    IsNonDecreasingBy f xs → below f m xs ≡ below f n xs ++ on f n xs
below_next f n m [] less gap h = refl
below_next f n m (x ∷ xs) less gap h =
    let ih = below_next f n m xs less (λ y among. gap y (later_in x y xs among)) (rising_tail f x xs h) in
    elim (cases_lt (f x) n) [
      | inl low ↦ rw (lt-ltb (f x) m (omega arith), lt-ltb _ _ low, ne_eqb (f x) n (λ e. omega arith)) (ap (λ ys. x ∷ ys) ih)
      | inr from ↦
          let none : below f n xs ≡ [] = below_none f n xs (λ y among. let up = rising_head f x y xs h among in omega arith) in
          let ih' : below f m xs ≡ on f n xs = ih ∙ ap (λ ys. ys ++ on f n xs) none in
          elim (cases_eq (f x) n) [
            | inl e ↦ rw (lt-ltb (f x) m (omega arith), le-ltb _ _ from, eq-eqb (f x) n e, none) (ap (λ ys. x ∷ ys) ih')
            | inr ne ↦
                let far : m ≤ f x = gap x (first_in x xs) (omega arith) in
                rw (le-ltb (f x) m far, le-ltb _ _ from, ne_eqb (f x) n ne, none) ih'
          ]
    ]

-- a list's only element on a line
pub on_alone : {A : Type 0} (f : A → ℕ) (n : ℕ) (xs : List A) (j : ℕ) (e : A) → slice_get xs j ≡ Some e → f e ≡ n →
    ((k : ℕ) (d : A) → slice_get xs k ≡ Some d → f d ≡ n → k ≡ j) → on f n xs ≡ e ∷ []
on_alone f n [] j e at same alone = absurd (not_some e at)
on_alone f n (x ∷ xs) zero e at same alone =
    let is : x ≡ e = of_some x e at in
    let none : on f n xs ≡ [] =
    on_none f n xs (λ d among here. let (k, there) = in_at xs d among in let late : suc k ≡ 0 = alone (suc k) d there here in
    absurd cc) in
    rw (eq-eqb (f x) n (ap f is ∙ same), none) (ap (λ z. z ∷ []) is)
on_alone f n (x ∷ xs) (suc j) e at same alone =
    let other : f x ≡ n → ⊥ = λ here. let early : 0 ≡ suc j = alone 0 x refl here in absurd cc in
    rw (ne_eqb (f x) n other) (on_alone f n xs j e at same (λ k d there here. let late : suc k ≡ suc j = alone (suc k) d there here in cc))

-- if one entry alone is on a line, this is its place, and an entry there is this one
pub on_one : {A : Type 0} (f : A → ℕ) (n : ℕ) (xs : List A) (e d : A) (j : ℕ) → IsNonDecreasingBy f xs → on f n xs ≡ e ∷ [] →
    slice_get xs j ≡ Some d → f d ≡ n →
    (j ≡ length (below f n xs)) × (d ≡ e)
on_one f n [] e d j h one at same = absurd (not_some d at)
on_one f n (x ∷ xs) e d zero h one at same =
    let is : x ≡ d = of_some x d at in
    let here : f x ≡ n = ap f is ∙ same in
    let none : below f n xs ≡ [] = below_none f n xs (λ y among. let up = rising_head f x y xs h among in omega arith) in
    let it : x ∷ on f n xs ≡ e ∷ [] = rw (eq-eqb (f x) n here) at one in
    rw (le-ltb (f x) n (omega arith), none) (refl, sym is ∙ ap (λ ys. get_or ys 0 x) it)
on_one f n (x ∷ xs) e d (suc k) h one at same =
    let member : Contains xs d = at_in xs k d at in
    let up = rising_head f x d xs h member in
    elim (cases_eq (f x) n) [
      | inl here ↦
          let it : x ∷ on f n xs ≡ e ∷ [] = rw (eq-eqb (f x) n here) at one in
          let empty : on f n xs ≡ [] = ap (drop 1) it in
          absurd (not_in_none d (subst (λ ys. Contains ys d) empty (on_in f n xs d member same)))
      | inr ne ↦
          let one' : on f n xs ≡ e ∷ [] = rw (ne_eqb (f x) n ne) at one in
          let (place, it) = on_one f n xs e d k (rising_tail f x xs h) one' at same in
          rw (lt-ltb (f x) n (omega arith)) (ap suc place, it)
    ]

-- an entry that comes before a line has its place in what does
pub get_below : {A : Type 0} (f : A → ℕ) (n : ℕ) (xs : List A) (j : ℕ) (e : A) → IsNonDecreasingBy f xs → slice_get xs j ≡ Some e →
    f e < n → slice_get (below f n xs) j ≡ Some e
get_below f n [] j e h at less = at
get_below f n (x ∷ xs) zero e h at less =
    let is : x ≡ e = of_some x e at in
    let low : f x < n = let same : f x ≡ f e = ap f is in omega arith in
    rw (lt-ltb _ _ low) at
get_below f n (x ∷ xs) (suc k) e h at less =
    let up = rising_head f x e xs h (at_in xs k e at) in
    let low : f x < n = omega arith in
    rw (lt-ltb _ _ low) (get_below f n xs k e (rising_tail f x xs h) at less)

below_get_from : {A : Type 0} (f : A → ℕ) (n : ℕ) (x : A) (xs : List A) (j : ℕ) (e : A) → IsNonDecreasingBy f (x ∷ xs) → n ≤ f x →
    slice_get (below f n (x ∷ xs)) j ≡ Some e → ⊥
below_get_from f n x xs j e h from at =
    let none : below f n (x ∷ xs) ≡ [] = below_none f n (x ∷ xs) (λ y among. elim (in_cases x y xs among) [
      | inl same ↦ let same' : f x ≡ f y = ap f same in omega arith
      | inr rest ↦ let up = rising_head f x y xs h rest in omega arith
    ]) in
    not_some e (subst (λ ys. slice_get ys j ≡ Some e) none at)

pub below_get : {A : Type 0} (f : A → ℕ) (n : ℕ) (xs : List A) (j : ℕ) (e : A) → IsNonDecreasingBy f xs →
    slice_get (below f n xs) j ≡ Some e → slice_get xs j ≡ Some e
below_get f n [] j e h at = at
below_get f n (x ∷ xs) zero e h at = elim (cases_lt (f x) n) [
  | inl less ↦ rw (lt-ltb _ _ less) at at
  | inr from ↦ absurd (below_get_from f n x xs zero e h from at)
]
below_get f n (x ∷ xs) (suc k) e h at = elim (cases_lt (f x) n) [
  | inl less ↦
      let at' : slice_get (below f n xs) k ≡ Some e = rw (lt-ltb _ _ less) at at in
      below_get f n xs k e (rising_tail f x xs h) at'
  | inr from ↦ absurd (below_get_from f n x xs (suc k) e h from at)
]

-- ---- lists that are alike before a line

below_below : {A : Type 0} (f : A → ℕ) (m n : ℕ) (xs : List A) → m ≤ n → below f m (below f n xs) ≡ below f m xs
below_below f m n [] low = refl
below_below f m n (x ∷ xs) low = elim (cases_lt (f x) n) [
  | inl less ↦ elim (cases_lt (f x) m) [
    | inl under ↦ rw (lt-ltb (f x) n less, lt-ltb (f x) m under) (ap (λ ys. x ∷ ys) (below_below f m n xs low))
    | inr over ↦ rw (lt-ltb (f x) n less, le-ltb (f x) m over) (below_below f m n xs low)
  ]
  | inr more ↦ rw (le-ltb (f x) n more, le-ltb (f x) m (omega arith)) (below_below f m n xs low)
]

-- lists that are alike before a line are alike before an earlier one
pub below_alike : {A : Type 0} (f : A → ℕ) (m n : ℕ) (xs ys : List A) → m ≤ n → below f n xs ≡ below f n ys → below f m xs ≡ below f m ys
below_alike f m n xs ys low same = sym (below_below f m n xs low) ∙ ap (below f m) same ∙ below_below f m n ys low

pub none_below : {A : Type 0} (f : A → ℕ) (xs ys : List A) → below f 0 xs ≡ below f 0 ys
none_below f xs ys = below_none f 0 xs (λ x among. omega arith) ∙ sym (below_none f 0 ys (λ x among. omega arith))

-- lists that are alike before a line and on it are alike before the next
pub next_below : {A : Type 0} (f : A → ℕ) (n : ℕ) (xs ys : List A) → IsNonDecreasingBy f xs → IsNonDecreasingBy f ys
    → below f n xs ≡ below f n ys → on f n xs ≡ on f n ys → below f (n + 1) xs ≡ below f (n + 1) ys
next_below f n xs ys h k same now =
    below_next f n (n + 1) xs (omega arith) (λ x among more. omega arith) h ∙ both_parts _ _ _ _ same now
    ∙ sym (below_next f n (n + 1) ys (omega arith) (λ x among more. omega arith) k)

-- no line of the list is from n up to m
abbrev pub HasGap : {A : Type 0} → (A → ℕ) → ℕ → ℕ → List A → Type 0
HasGap f n m xs = (x : _) → Contains xs x → (f x < n) ⊎ (m ≤ f x)

-- if no line of a list is from n up to m, the part of it before line n is the part before line m
pub below_gap : {A : Type 0} (f : A → ℕ) (n m : ℕ) (xs : List A) → n ≤ m → HasGap f n m xs → below f n xs ≡ below f m xs
below_gap f n m [] up gap = refl
below_gap f n m (x ∷ xs) up gap =
    let ih = below_gap f n m xs up (λ y among. gap y (later_in x y xs among)) in
    elim (gap x (first_in x xs)) [
      | inl low ↦ rw (lt-ltb (f x) n low, lt-ltb (f x) m (omega arith)) (ap (λ ys. x ∷ ys) ih)
      | inr high ↦ rw (le-ltb (f x) n (omega arith), le-ltb (f x) m high) ih
    ]

-- ---- lists whose lines don't fall

-- a list whose lines don't fall: each of a lesser line comes before
pub sorted_by : {A : Type 0} (f : A → ℕ) (xs : List A) →
    ((i j : ℕ) (e g : A) → slice_get xs i ≡ Some e → slice_get xs j ≡ Some g → f e < f g → i < j) → IsNonDecreasingBy f xs
sorted_by f xs h i j d up few = elim (cases_lt (f (get_or xs j d)) (f (get_or xs i d))) [
  | inl less ↦ let back = h j i (get_or xs j d) (get_or xs i d) (slice_get-get_or xs j d few)
      (slice_get-get_or xs i d (omega arith)) less in absurd (omega arith)
  | inr up' ↦ omega arith
]

-- a list whose lines don't fall has rising lines if each entry has a line of its own
pub rises_by : {A : Type 0} (f : A → ℕ) (xs : List A) → IsNonDecreasingBy f xs
    → ((i j : ℕ) (e g : A) → slice_get xs i ≡ Some e → slice_get xs j ≡ Some g → f e ≡ f g → i ≡ j) → IsStrictlyIncreasing (map f xs)
rises_by f [] h differ k few = absurd (omega arith)
rises_by f (x ∷ xs) h differ k few =
    let many = length-map (x ∷ xs) f in
    let a = get_or-map f (x ∷ xs) k x 0 (omega arith) in
    let b = get_or-map f (x ∷ xs) (k + 1) x 0 (omega arith) in
    let up = h k (k + 1) x (omega arith) (omega arith) in
    elim (cases_eq (f (get_or (x ∷ xs) k x)) (f (get_or (x ∷ xs) (k + 1) x))) [
      | inl same ↦
          let one = differ k (k + 1) (get_or (x ∷ xs) k x) (get_or (x ∷ xs) (k + 1) x) (slice_get-get_or (x ∷ xs) k x (omega arith))
          (slice_get-get_or (x ∷ xs) (k + 1) x (omega arith)) same in
          absurd (omega arith)
      | inr other ↦ omega arith
    ]

-- lines that rise don't fall
pub rising_strictly : {A : Type 0} (f : A → ℕ) (xs : List A) → IsStrictlyIncreasing (map f xs) → IsNonDecreasingBy f xs
rising_strictly f xs h i j d low below' = elim (cases_eq i j) [
  | inl e ↦ let same : f (get_or xs i d) ≡ f (get_or xs j d) = ap (λ k. f (get_or xs k d)) e in omega arith
  | inr ne ↦
      let many = length-map xs f in
      let up = AllPairs-from_increasing (map f xs) h i j (f d) (omega arith) (omega arith) in
      let a = get_or-map f xs i d (f d) (omega arith) in
      let b = get_or-map f xs j d (f d) (omega arith) in
      omega arith
]
