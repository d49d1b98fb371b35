-- How often a number is in a list, and which numbers a span's list has.
use Rattle.std.proofs.Common.{◌≡◌, ℕ, suc, ◌+◌, ◌-◌, ◌<◌, ◌≤◌, max, List, [], ◌∷◌, ◌++◌, length, get_or, refl, sym, ◌∙◌, ap, subst, arith, inl, inr}
use Rattle.std.specs.Prelude.{Contains}
use Rattle.std.proofs.lemmas.Bool.{cases_eq, cases_lt, eq-eqb, ne_eqb}
use Rattle.std.proofs.lemmas.List.{get_or_past, length-append, nil_from_length}
use Rattle.pa_record.specs.Spans.{Span, more_pages, more_slots, provisioned_more}
use Rattle.pa_lists.proofs.Different.{numbers_has, numbers_in, numbers_length}
use Rattle.pa_lists.proofs.Members.{not_in_none, first_in, later_in, in_cases}
use Rattle.pa_place.specs.CameBack.{AreTimes, times_in}
use Rattle.pa_lists.specs.Numbers.{numbers}

times_first : (n x : ℕ) (xs : List ℕ) → x ≡ n → times_in n (x ∷ xs) ≡ 1 + times_in n xs
times_first n x xs same = rw (eq-eqb x n same) refl

times_later : (n x : ℕ) (xs : List ℕ) → (x ≡ n → ⊥) → times_in n (x ∷ xs) ≡ times_in n xs
times_later n x xs other = rw (ne_eqb x n other) (omega arith)

pub times_few : (n : ℕ) (xs : List ℕ) → times_in n xs ≤ length xs
times_few n [] = omega arith
times_few n (x ∷ xs) = elim (cases_eq x n) [
  | inl same ↦ let e = times_first n x xs same in let k = times_few n xs in omega (arith, e, k)
  | inr other ↦ let e = times_later n x xs other in let k = times_few n xs in omega (arith, e, k)
]

pub times_in_list : (n : ℕ) (xs : List ℕ) → 0 < times_in n xs → Contains xs n
times_in_list n [] some = absurd (omega (arith, some))
times_in_list n (x ∷ xs) some = elim (cases_eq x n) [
  | inl same ↦ subst (λ k. Contains (x ∷ xs) k) same (first_in x xs)
  | inr other ↦ later_in x n xs (times_in_list n xs (subst (λ k. 0 < k) (times_later n x xs other) some))
]

pub times_listed : (n : ℕ) (xs : List ℕ) → Contains xs n → 0 < times_in n xs
times_listed n [] among = absurd (not_in_none n among)
times_listed n (x ∷ xs) among = elim (cases_eq x n) [
  | inl same ↦ let e = times_first n x xs same in omega (arith, e)
  | inr other ↦ elim (in_cases x n xs among) [
    | inl same ↦ absurd (other same)
    | inr rest ↦ let e = times_later n x xs other in let k = times_listed n xs rest in omega (arith, e, k)
  ]
]

-- a number's count is below how long the list is, also if it has no place
pub times_below : (times xs : List ℕ) (n most : ℕ) → AreTimes times xs → length xs < most → get_or times n 0 < most
times_below times xs n most h few = elim (cases_lt n (length times)) [
  | inl low ↦ let e = h n low in let k = times_few n xs in omega (arith, e, k, few)
  | inr past ↦ let e = get_or_past times n 0 past in omega (arith, e, few)
]

-- ---- the list of a span: what came back, and after it the numbers from one on up to another

pub numbers_step : (n to : ℕ) → n < to → numbers n (to - n) ≡ n ∷ numbers (n + 1) (to - (n + 1))
numbers_step n to less = let e : to - n ≡ suc (to - (n + 1)) = omega arith in rw e refl

pub list_length : (xs : List ℕ) (from to : ℕ) → length (xs ++ numbers from (to - from)) ≡ length xs + (to - from)
list_length xs from to = length-append xs (numbers from (to - from)) ∙ ap (λ n. length xs + n) (numbers_length from (to - from))

pub none_back : (xs : List ℕ) (from to : ℕ) → xs ++ numbers from (to - from) ≡ [] → xs ≡ []
none_back xs from to none =
    let long = list_length xs from to in
    let zero' = ap length none in
    nil_from_length xs (omega (arith, long, zero'))

pub none_kept : (xs : List ℕ) (from to : ℕ) → from ≤ to → xs ++ numbers from (to - from) ≡ [] → from ≡ to
none_kept xs from to low none =
    let long = list_length xs from to in
    let zero' = ap length none in
    omega (arith, long, zero', low)

-- a number is in the list exactly when it came back or is one from `from` on
pub back_listed : (xs : List ℕ) (from to n : ℕ) → Contains xs n → Contains (xs ++ numbers from (to - from)) n
back_listed xs from to n among = in_left xs (numbers from (to - from)) n among
  where
    in_left : (xs ys : List ℕ) (n : ℕ) → Contains xs n → Contains (xs ++ ys) n
    in_left [] ys n among = absurd (not_in_none n among)
    in_left (x ∷ xs) ys n among = elim (in_cases x n xs among) [
      | inl same ↦ subst (λ k. Contains (x ∷ xs ++ ys) k) same (first_in x (xs ++ ys))
      | inr rest ↦ later_in x n (xs ++ ys) (in_left xs ys n rest)
    ]

pub kept_listed : (xs : List ℕ) (from to n : ℕ) → from ≤ n → n < to → Contains (xs ++ numbers from (to - from)) n
kept_listed xs from to n low high = in_right xs (numbers from (to - from)) n (numbers_has from (to - from) n low (omega (arith, low, high)))
  where
    in_right : (xs ys : List ℕ) (n : ℕ) → Contains ys n → Contains (xs ++ ys) n
    in_right [] ys n among = among
    in_right (x ∷ xs) ys n among = later_in x n (xs ++ ys) (in_right xs ys n among)

pub listed_back : (xs : List ℕ) (from to n : ℕ) → n < from → Contains (xs ++ numbers from (to - from)) n → Contains xs n
listed_back [] from to n low among = let (p, q) = numbers_in from (to - from) n among in absurd (omega (arith, p, low))
listed_back (x ∷ xs) from to n low among = elim (in_cases x n (xs ++ numbers from (to - from)) among) [
  | inl same ↦ subst (λ k. Contains (x ∷ xs) k) same (first_in x xs)
  | inr rest ↦ later_in x n xs (listed_back xs from to n low rest)
]

-- a span whose list was empty is provisioned
pub provisioned_is : (v : Span) (xs : List ℕ) (from pages slots made : ℕ) → v.free ≡ xs ++ numbers from (v.provisioned - from)
    → from ≤ v.provisioned → v.free ≡ [] → pages ≡ more_pages v → slots ≡ more_slots v → made ≡ max v.made slots
    → record v { committed = pages; provisioned = slots; made = made; free = xs ++ numbers from (slots - from) } ≡ provisioned_more v
provisioned_is v xs from pages slots made is low none more all most =
    let back = none_back xs from v.provisioned (sym is ∙ none) in
    let kept = none_kept xs from v.provisioned low (sym is ∙ none) in
    let free : xs ++ numbers from (slots - from) ≡ numbers v.provisioned (more_slots v - v.provisioned) =
    ap (λ ys. ys ++ numbers from (slots - from)) back ∙ ap (λ n. numbers n (slots - n)) kept ∙
    ap (λ n. numbers v.provisioned (n - v.provisioned)) all in
    let made' : made ≡ max v.made (more_slots v) = most ∙ ap (max v.made) all in
    ap (λ n. record v { committed = n; provisioned = slots; made = made; free = xs ++ numbers from (slots - from) }) more
    ∙ ap (λ n. record v { committed = more_pages v; provisioned = n; made = made; free = xs ++ numbers from (slots - from) }) all
    ∙ ap (λ n. record v { committed = more_pages v; provisioned = more_slots v; made = n; free = xs ++ numbers from (slots - from) }) made'
    ∙ ap (λ ys. record v { committed = more_pages v; provisioned = more_slots v; made = max v.made (more_slots v); free = ys }) free
