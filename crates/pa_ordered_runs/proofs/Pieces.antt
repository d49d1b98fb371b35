-- Lists made piece by piece: where a piece is cut, what a filter keeps of the pieces, and lists in the order of their lines.
use Rattle.std.proofs.Common.{◌≡◌, ℕ, ◌+◌, ◌<◌, ◌≤◌, List, [], ◌∷◌, ◌++◌, map, Option, Some, None, refl, sym, ◌∙◌, ap, arith, inl, inr, append_assoc}
use Rattle.std.specs.Prelude.{Contains, AllPairs, filter, nat_le}
use Rattle.std.specs.List.{cons_option, filter_map, flat_map}
use Rattle.std.specs.List.Sorted.{IsNonDecreasingBy}
use Rattle.std.proofs.lemmas.Bool.{cases_lt, cases_eq, eq-eqb, ne_eqb, le-leb, lt-leb}
use Rattle.std.proofs.lemmas.List.{map-append}
use Rattle.std.proofs.lemmas.List.Elements.{filter_map-append}
use Rattle.pa_lists.proofs.Members.{not_in_none, first_in, later_in, in_cases}
use Rattle.pa_lists.proofs.Pairs.{pairs_head, pairs_tail}
use Rattle.pa_lists.proofs.Cuts.{append_cut}
use Rattle.pa_record.proofs.Filtered.{filter_all, filter_none}
use Rattle.pa_one_run.specs.Before.{on}
use Rattle.pa_one_run.proofs.lines.Sorting.{rising_head, rising_tail, on_none}

-- ---- where a piece is cut

-- the piece of x is cut at y: the pieces before it and its own front are before
pub record IsCutAt {X A : Type 0} (f : X → List A) (xs : List X) (before : List A) (y : A) : Type 0 where
  pub front : List X
  pub back : List X
  pub x : X
  pub us : List A
  pub vs : List A
  pub whole : xs ≡ front ++ x ∷ back
  pub piece : f x ≡ us ++ y ∷ vs
  pub left : before ≡ flat_map f front ++ us

pub cut_at : {X A : Type 0} (f : X → List A) (xs : List X) (before after : List A) (y : A) → flat_map f xs ≡ before ++ y ∷ after →
    IsCutAt f xs before y
cut_at f [] [] after y e = absurd cc
cut_at f [] (b ∷ before) after y e = absurd cc
cut_at f (x ∷ xs) before after y e = elim (append_cut (f x) (flat_map f xs) before after y e) [
  | inl (vs, cut) ↦ record { front = []; back = xs; x = x; us = before; vs = vs; whole = refl; piece = cut; left = refl }
  | inr (us, front, cut) ↦
      let ih = cut_at f xs us after y cut in
      record {
        front = x ∷ ih.front;
        back = ih.back;
        x = ih.x;
        us = ih.us;
        vs = ih.vs;
        whole = ap (λ ys. x ∷ ys) ih.whole;
        piece = ih.piece;
        left = front ∙ ap (λ ys. f x ++ ys) ih.left ∙ sym (append_assoc (f x) (flat_map f ih.front) ih.us);
      }
]

-- ---- piece by piece

pub flat_same : {X A : Type 0} (f g : X → List A) (xs : List X) → ((x : X) → Contains xs x → f x ≡ g x) → flat_map f xs ≡ flat_map g xs
flat_same f g [] h = refl
flat_same f g (x ∷ xs) h = ap (λ ys. ys ++ flat_map f xs) (h x (first_in x xs)) ∙
    ap (λ ys. g x ++ ys) (flat_same f g xs (λ y among. h y (later_in x y xs among)))

pub flat_none : {X A : Type 0} (f : X → List A) (xs : List X) → ((x : X) → Contains xs x → f x ≡ []) → flat_map f xs ≡ []
flat_none f [] h = refl
flat_none f (x ∷ xs) h = ap (λ ys. ys ++ flat_map f xs) (h x (first_in x xs)) ∙ flat_none f xs (λ y among. h y (later_in x y xs among))

pub filter_map_flat : {X A B : Type 0} (h : A → Option B) (f : X → List A) (xs : List X) →
    filter_map h (flat_map f xs) ≡ flat_map (λ x. filter_map h (f x)) xs
filter_map_flat h f [] = refl
filter_map_flat h f (x ∷ xs) = filter_map-append h (f x) (flat_map f xs) ∙ ap (λ ys. filter_map h (f x) ++ ys) (filter_map_flat h f xs)

pub map_flat : {X A B : Type 0} (h : A → B) (f : X → List A) (xs : List X) → map h (flat_map f xs) ≡ flat_map (λ x. map h (f x)) xs
map_flat h f [] = refl
map_flat h f (x ∷ xs) = map-append h (f x) (flat_map f xs) ∙ ap (λ ys. map h (f x) ++ ys) (map_flat h f xs)

pub filter_map_map : {X A B : Type 0} (h : A → Option B) (f : X → A) (xs : List X) → filter_map h (map f xs) ≡ filter_map (λ x. h (f x)) xs
filter_map_map h f [] = refl
filter_map_map h f (x ∷ xs) = ap (cons_option (h (f x))) (filter_map_map h f xs)

pub filter_map_none : {X B : Type 0} (h : X → Option B) (xs : List X) → ((x : X) → Contains xs x → h x ≡ None) → filter_map h xs ≡ []
filter_map_none h [] none = refl
filter_map_none h (x ∷ xs) none = rw (none x (first_in x xs)) (filter_map_none h xs (λ y among. none y (later_in x y xs among)))

option_piece : {B : Type 0} (o : Option B) (ys zs : List B) → ys ≡ zs → cons_option o ys ≡ cons_option o [] ++ zs
option_piece None ys zs e = e
option_piece (Some y) ys zs e = ap (λ xs. y ∷ xs) e

pub filter_map_pieces : {X B : Type 0} (h : X → Option B) (xs : List X) → filter_map h xs ≡ flat_map (λ x. cons_option (h x) []) xs
filter_map_pieces h [] = refl
filter_map_pieces h (x ∷ xs) = option_piece (h x) (filter_map h xs) (flat_map (λ y. cons_option (h y) []) xs) (filter_map_pieces h xs)

-- ---- lists in the order of their lines

-- what is on line n or past it
abbrev from : {A : Type 0} → (A → ℕ) → ℕ → List A → List A
from f n xs = filter (λ x. nat_le n (f x)) xs

from_next : {A : Type 0} (f : A → ℕ) (n m : ℕ) (xs : List A) → n ≤ m → ((x : A) → Contains xs x → n ≤ f x → m ≤ f x) →
    IsNonDecreasingBy f xs → from f n xs ≡ on f m xs ++ from f (m + 1) xs
from_next f n m [] up gap h = refl
from_next f n m (x ∷ xs) up gap h =
    let ih = from_next f n m xs up (λ y among. gap y (later_in x y xs among)) (rising_tail f x xs h) in
    elim (cases_lt (f x) n) [
      | inl low ↦ rw (lt-leb n (f x) low, ne_eqb (f x) m (λ e. omega arith), lt-leb (m + 1) (f x) (omega arith)) ih
      | inr high ↦
          let there : m ≤ f x = gap x (first_in x xs) (omega arith) in
          elim (cases_eq (f x) m) [
            | inl here ↦ rw (le-leb n (f x) (omega arith), eq-eqb (f x) m here, lt-leb (m + 1) (f x) (omega arith)) (ap (λ ys. x ∷ ys) ih)
            | inr past ↦
                let none : on f m xs ≡ [] = on_none f m xs (λ y among e. let more = rising_head f x y xs h among in omega arith) in
                rw (le-leb n (f x) (omega arith), ne_eqb (f x) m past, le-leb (m + 1) (f x) (omega arith), none)
                (ap (λ ys. x ∷ ys) (ih ∙ ap (λ ys. ys ++ from f (m + 1) xs) none))
          ]
    ]

-- members that are on lines of the records, in the order of the lines, are those of each record's line, record by record
along : {X A : Type 0} (line : X → ℕ) (f : A → ℕ) (n : ℕ) (ps : List X) (es : List A) → AllPairs (λ (x y : X). line x < line y) ps →
    ((x : X) → Contains ps x → n ≤ line x) → IsNonDecreasingBy f es →
    ((e : A) → Contains es e → n ≤ f e → (x : X) × Contains ps x × (line x ≡ f e)) → flat_map (λ x. on f (line x) es) ps ≡ from f n es
along line f n [] es rising low h of = sym (filter_none (λ e. nat_le n (f e)) es (λ e among. elim (cases_lt (f e) n) [
  | inl less ↦ lt-leb n (f e) less
  | inr more ↦ let (x, there, same) = of e among (omega arith) in absurd (not_in_none x there)
]))
along line f n (x ∷ xs) es rising low h of =
    let later : (y : _) → Contains xs y → line x < line y = λ y among. pairs_head (λ u v. line u < line v) x y xs rising among in
    let ih = along line f (line x + 1) xs es (pairs_tail (λ u v. line u < line v) x xs rising)
    (λ y among. let up = later y among in omega arith) h
    (λ e among up. let (y, there, same) = of e among (let first = low x (first_in x xs) in omega arith) in elim (in_cases x y xs there) [
      | inl one ↦ let here : line x ≡ line y = ap line one in absurd (omega arith)
      | inr rest ↦ (y, rest, same)
    ]) in
    ap (λ ys. on f (line x) es ++ ys) ih
    ∙ sym (from_next f n (line x) es (low x (first_in x xs))
    (λ e among up. let (y, there, same) = of e among up in elim (in_cases x y xs there) [
      | inl one ↦ let here : line x ≡ line y = ap line one in omega arith
      | inr rest ↦ let up' = later y rest in omega arith
    ]) h)

pub by_lines : {X A : Type 0} (line : X → ℕ) (f : A → ℕ) (ps : List X) (es : List A) → AllPairs (λ (x y : X). line x < line y) ps →
    IsNonDecreasingBy f es →
    ((e : A) → Contains es e → (x : X) × Contains ps x × (line x ≡ f e)) → flat_map (λ x. on f (line x) es) ps ≡ es
by_lines line f ps es rising h of =
    along line f 0 ps es rising (λ x among. omega arith) h (λ e among up. of e among) ∙
    filter_all (λ e. nat_le 0 (f e)) es (λ e among. le-leb 0 (f e) (omega arith))
