-- Tests that compute, by which what a clause says of the members of a written list is seen.
use Rattle.std.proofs.Common.{◌≡◌, ℕ, zero, suc, ◌<◌, ◌≤◌, Bool, true, false, ◌&&◌, ◌||◌, not, eqb, ltb, leb, List, [], ◌∷◌, Some, refl, sym, ap, subst, arith, ◌⊎◌, inl, inr}
use Rattle.std.specs.Prelude.{Contains, AllPairs, slice_get, slice_index_or}
use Rattle.std.specs.List.{AllByRecursion, list_all, list_any}
use Rattle.std.specs.List.Sorted.{IsNonDecreasingBy}
use Rattle.std.proofs.lemmas.Bool.{and_parts, or_cases, cases_eq, cases_lt, leb-true, ltb-true, eq-eqb, lt-ltb, and_from, or_left, or_right, or_parts, not-true, both_ways}
use Rattle.std.proofs.lemmas.List.Elements.{All-contains, All-from_recursion}
use Rattle.std.proofs.lemmas.Option.{slice_get_within, get_or_from_slice_get}
use Rattle.pa_record.specs.declared.root.RootEntry.{RootEntry}
use Rattle.pa_lists.proofs.Members.{first_in, not_in_none, not_some}
use Rattle.pa_lists.proofs.Pairs.{pairs_none, pairs_cons}
use Rattle.pa_rules.specs.declared.played.Played.{Played}
use Rattle.pa_rules.specs.Roots.{IsEntry, journal_at}
use Rattle.pa_rules.specs.Order.{IsOfLine, StandsBefore}
use Rattle.pa_lists.proofs.Elements.{passes}

-- what is shown of each member in order
pub each : {A : Type 0} (P : A → Type 0) (xs : List A) → AllByRecursion P xs → (x : A) → Contains xs x → P x
each P xs h x among = All-contains P xs x (All-from_recursion P xs h) among

-- a test of each two members
abbrev pub all_both : {A : Type 0} → (A → A → Bool) → List A → Bool
all_both test xs = list_all (λ x. list_all (test x) xs) xs

pub both_pass : {A : Type 0} (test : A → A → Bool) (xs : List A) (x y : A) → all_both test xs ≡ true → Contains xs x → Contains xs y →
    test x y ≡ true
both_pass test xs x y h among among' = passes (test x) xs y (passes (λ z. list_all (test z) xs) xs x h among) among'

-- a test of each member and each later one
abbrev pub all_pairs : {A : Type 0} → (A → A → Bool) → List A → Bool
all_pairs test [] = true
all_pairs test (x ∷ xs) = list_all (test x) xs && all_pairs test xs

pub pairs_pass : {A : Type 0} (R : A → A → Type 0) (test : A → A → Bool) → ((x y : A) → test x y ≡ true → R x y) → (xs : List A) →
    all_pairs test xs ≡ true → AllPairs R xs
pairs_pass R test says [] h = pairs_none R
pairs_pass R test says (x ∷ xs) h =
    let (p, q) = and_parts (list_all (test x) xs) (all_pairs test xs) h in
    pairs_cons R x xs (λ y among. says x y (passes (test x) xs y p among)) (pairs_pass R test says xs q)

pub rises : {A : Type 0} (f : A → ℕ) (xs : List A) → all_pairs (λ x y. leb (f x) (f y)) xs ≡ true → IsNonDecreasingBy f xs
rises f xs h i j d low below = elim (cases_eq i j) [
  | inl e ↦ let same : f (slice_index_or xs i d) ≡ f (slice_index_or xs j d) = ap (λ k. f (slice_index_or xs k d)) e in omega arith
  | inr ne ↦ pairs_pass (λ x y. f x ≤ f y) (λ x y. leb (f x) (f y)) (λ x y. leb-true (f x) (f y)) xs h i j d (omega arith) below
]

-- if the numbers rise, entries with one number are in one place
pub one_place : {A : Type 0} (f : A → ℕ) (xs : List A) → all_pairs (λ x y. ltb (f x) (f y)) xs ≡ true → (i j : ℕ) (d e : A) →
    slice_get xs i ≡ Some d → slice_get xs j ≡ Some e → f d ≡ f e → i ≡ j
one_place f xs h i j d e at at' same =
    let less : AllPairs (λ x y. f x < f y) xs = pairs_pass (λ x y. f x < f y) (λ x y. ltb (f x) (f y)) (λ x y. ltb-true (f x) (f y)) xs h in
    let here : f (slice_index_or xs i d) ≡ f d = ap f (get_or_from_slice_get xs i d d at) in
    let there : f (slice_index_or xs j d) ≡ f e = ap f (get_or_from_slice_get xs j e d at') in
    elim (cases_lt i j) [
      | inl before ↦ let up = less i j d before (slice_get_within xs j e at') in absurd (omega arith)
      | inr from ↦ elim (cases_lt j i) [
        | inl after ↦ let up = less j i d after (slice_get_within xs i d at) in absurd (omega arith)
        | inr from' ↦ omega arith
      ]
    ]

-- if one test passes, the other does
abbrev pub implies : Bool → Bool → Bool
implies a b = not a || b

pub implied : (a b : Bool) → implies a b ≡ true → a ≡ true → b ≡ true
implied a b h first = elim (or_cases (not a) b h) [
  | inl other ↦ absurd (both_ways a (not-true a other) first)
  | inr b' ↦ b'
]

pub none_passes : {A : Type 0} (test : A → Bool) (xs : List A) (x : A) → list_any test xs ≡ false → Contains xs x → test x ≡ true → ⊥
none_passes test [] x none among here = not_in_none x among
none_passes test (y ∷ ys) x none (zero, below, e) here = both_ways _ (or_parts _ _ none).0 (subst (λ z. test z ≡ true) (sym e) here)
none_passes test (y ∷ ys) x none (suc k, below, e) here = none_passes test ys x (or_parts _ _ none).1 (k, omega arith, e) here

-- a list has no member or some
pub none_or_some : {A : Type 0} (xs : List A) → (xs ≡ []) ⊎ ((x : A) × Contains xs x)
none_or_some [] = inl refl
none_or_some (x ∷ xs) = inr (x, first_in x xs)

-- if there is one journal, each entry is of partition 0 and is in it
pub only_journal : (journal : List RootEntry) (p j : ℕ) (e : RootEntry) → IsEntry (journal_at (journal ∷ [])) p j e → (p ≡ 0) ×
    (slice_get journal j ≡ Some e)
only_journal journal zero j e at = (refl, at)
only_journal journal (suc p) j e at = absurd (not_some e at)

-- the test whether x is before y
abbrev pub stands : Played → Played → Bool
stands x y = (eqb x.thread y.thread && ltb x.line y.line) || ltb x.phase y.phase

pub stands-from : (x y : Played) → StandsBefore x y → stands x y ≡ true
stands-from x y (inl (thread, line)) = or_left _ _ (and_from _ _ (eq-eqb x.thread y.thread thread) (lt-ltb x.line y.line line))
stands-from x y (inr phase) = or_right _ _ (lt-ltb x.phase y.phase phase)

-- what is before has the lesser line
abbrev pub lines_follow : List Played → Bool
lines_follow ps = all_both (λ (x : Played) (y : Played). implies (stands x y) (ltb x.line y.line)) ps

-- entries with lines that don't fall are in the order of the records
pub in_order : {A : Type 0} (ps : List Played) (line_of : A → ℕ) (xs : List A) → lines_follow ps ≡ true → IsNonDecreasingBy line_of xs →
    (i j : ℕ) (e f : A) (x y : Played) → slice_get xs i ≡ Some e → slice_get xs j ≡ Some f → IsOfLine ps (line_of e) x →
    IsOfLine ps (line_of f) y → StandsBefore x y → i < j
in_order ps line_of xs h rise i j e f x y at at' (among, of) (among', of') before = elim (cases_lt i j) [
  | inl less ↦ less
  | inr from ↦
      let test : Played → Played → Bool = λ (z : Played) (w : Played). implies (stands z w) (ltb z.line w.line) in
      let less : x.line < y.line = ltb-true _ _ (implied _ _ (both_pass test ps x y h among among') (stands-from x y before)) in
      let up = rise j i e from (slice_get_within xs i e at) in
      let here : line_of (slice_index_or xs i e) ≡ line_of e = ap line_of (get_or_from_slice_get xs i e e at) in
      let there : line_of (slice_index_or xs j e) ≡ line_of f = ap line_of (get_or_from_slice_get xs j f e at') in
      absurd (omega arith)
]
