-- Keepers' lists of two views together.
use Rattle.std.proofs.Common.{◌≡◌, ℕ, ◌<◌, ◌≤◌, Bool, true, false, List, [], ◌∷◌, ◌++◌, length, refl, sym, ◌∙◌, ap, subst, arith, ◌⊎◌, inl, inr, eqb, length-append}
use Rattle.std.specs.Prelude.{if◌then◌else◌}
use Rattle.core.specs.List.{AllByRecursion as Each}
use Rattle.std.proofs.lemmas.Bool.{cases_lt, lt-ltb, le-ltb}
use Rattle.std.proofs.lemmas.Bool.Decides.{eqb_tells}
use Rattle.pa_region.specs.declared.view.Made.{Made}
use Rattle.pa_region.specs.declared.view.SeenList.{SeenList}
use Rattle.pa_region.specs.Lists.{longer, list_among, made_with, IsBeginning}
use Rattle.pa_region.specs.Takes.{IsLongest}
use Rattle.pa_region.proofs.ListFacts.{made_append}

-- the longer one of two
pub longer_is : (a b : List Made) → ((longer a b ≡ b) × (length a < length b)) ⊎ ((longer a b ≡ a) × (length b ≤ length a))
longer_is a b = elim (cases_lt (length a) (length b)) [
  | inl y ↦ inl (rw (lt-ltb (length a) (length b) y) refl, y)
  | inr n ↦ inr (rw (le-ltb (length a) (length b) n) refl, n)
]

-- the lengths of equal lists
same_long : (a b : List Made) → a ≡ b → length a ≡ length b
same_long a b e = ap (λ xs. length xs) e

-- with one more note at the front
longest_more : (e whole a b : List Made) → IsLongest whole a b → IsLongest (longer e whole) (longer e a) b
longest_more e whole a b l =
    let l1 = l.first in let l2 = l.second in
    elim (longer_is e whole) [
      | inl y ↦ elim (longer_is e a) [
        | inl z ↦ record {
          either = rw (y.0, z.0) l.either;
          first = rw (y.0, z.0) l1;
          second = rw y.0 l2;
        }
        | inr z ↦ record {
          either = elim l.either [
            | inl s ↦ let y1 = y.1 in let z1 = z.1 in let s1 = same_long whole a s in absurd (omega arith)
            | inr s ↦ rw y.0 (inr s)
          ];
          first = let y1 = y.1 in rw (y.0, z.0) omega arith;
          second = rw y.0 l2;
        }
      ]
      | inr y ↦ elim (longer_is e a) [
        | inl z ↦ let y1 = y.1 in let z1 = z.1 in absurd (omega arith)
        | inr z ↦ record {
          either = inl (rw (y.0, z.0) refl);
          first = rw (y.0, z.0) omega arith;
          second = let y1 = y.1 in rw y.0 omega arith;
        }
      ]
    ]

-- the longest list in notes of two views
pub among_append : (k : ℕ) (ns ms : List SeenList) → IsLongest (list_among k (ns ++ ms)) (list_among k ns) (list_among k ms)
among_append k [] ms = record { either = inr refl; first = omega arith; second = omega arith }
among_append k (n ∷ ns) ms = go (eqb n.keeper k) (among_append k ns ms)
  where
    go : (b : Bool) → IsLongest (list_among k (ns ++ ms)) (list_among k ns) (list_among k ms) →
        IsLongest (if b then longer n.entries (list_among k (ns ++ ms)) else list_among k (ns ++ ms))
        (if b then longer n.entries (list_among k ns) else list_among k ns) (list_among k ms)
    go true again = longest_more n.entries (list_among k (ns ++ ms)) (list_among k ns) (list_among k ms) again
    go false again = again

-- nothing after a list that is as long
nothing_behind : (rest : List Made) → length rest ≡ 0 → rest ≡ []
nothing_behind [] e = refl
nothing_behind (m ∷ ms) e = absurd (omega arith)

append_nil : (xs : List Made) → xs ++ [] ≡ xs
append_nil [] = refl
append_nil (x ∷ xs) = ap (λ ys. x ∷ ys) (append_nil xs)

-- a beginning that is as long as the list is the list
pub beginning_whole : (a l : List Made) → IsBeginning a l → length l ≤ length a → a ≡ l
beginning_whole a l b long =
    let e = same_long l (a ++ b.0) b.1 in
    let f = length-append a b.0 in
    let none = nothing_behind b.0 (omega arith) in
    sym (b.1 ∙ (ap (λ xs. a ++ xs) none ∙ append_nil a))

-- of two beginnings of a list the shorter one is a beginning of the longer one
order : (a b x y : List Made) → a ++ x ≡ b ++ y → length a ≤ length b → IsBeginning a b
order [] b x y e long = (b, refl)
order (m ∷ a) [] x y e long = absurd (omega arith)
order (m ∷ a) (n ∷ b) x y e long =
    let again = order a b x y (tail_same (m ∷ (a ++ x)) (n ∷ (b ++ y)) e) (omega arith) in
    let head : m ≡ n = head_same m (m ∷ (a ++ x)) (n ∷ (b ++ y)) e in
    (again.0, ap (λ z. z ∷ b) (sym head) ∙ ap (λ zs. m ∷ zs) again.1)
  where
    tail_of : List Made → List Made
    tail_of [] = []
    tail_of (z ∷ zs) = zs

    head_of : Made → List Made → Made
    head_of d [] = d
    head_of d (z ∷ zs) = z

    tail_same : (s t : List Made) → s ≡ t → tail_of s ≡ tail_of t
    tail_same s t same = ap tail_of same

    head_same : (d : Made) (s t : List Made) → s ≡ t → head_of d s ≡ head_of d t
    head_same d s t same = ap (head_of d) same

pub beginnings_order : (a b l : List Made) → IsBeginning a l → IsBeginning b l → length a ≤ length b → IsBeginning a b
beginnings_order a b l f g long = order a b f.0 g.0 (sym f.1 ∙ g.1) long

-- what notes say of a list is a beginning of it
pub among_beginning : (list : ℕ → List Made) (k : ℕ) (ns : List SeenList) → Each (λ n. IsBeginning n.entries (list n.keeper)) ns →
    IsBeginning (list_among k ns) (list k)
among_beginning list k [] each = (list k, refl)
among_beginning list k (n ∷ ns) each =
    let again = among_beginning list k ns each.1 in
    elim (eqb_tells n.keeper k) [
      | inl y ↦
          let here : IsBeginning n.entries (list k) = subst (λ (q : ℕ). IsBeginning n.entries (list q)) y.1 each.0 in
          elim (longer_is n.entries (list_among k ns)) [ inl z ↦ rw (y.0, z.0) again | inr z ↦ rw (y.0, z.0) here ]
      | inr m ↦ rw m.0 again
    ]

-- what a stake made stays the same between two lists if it is the same in both
pub made_between : (r : ℕ) (a b c : List Made) → IsBeginning a b → IsBeginning b c → made_with r a ≡ made_with r c →
    made_with r a ≡ made_with r b
made_between r a b c f g same =
    let e : made_with r b ≡ made_with r a ++ made_with r f.0 = ap (made_with r) f.1 ∙ made_append r a f.0 in
    let h : made_with r c ≡ made_with r b ++ made_with r g.0 = ap (made_with r) g.1 ∙ made_append r b g.0 in
    let e1 = same_long (made_with r b) (made_with r a ++ made_with r f.0) e in
    let h1 = same_long (made_with r c) (made_with r b ++ made_with r g.0) h in
    let s1 = same_long (made_with r a) (made_with r c) same in
    let l1 = length-append (made_with r a) (made_with r f.0) in
    let l2 = length-append (made_with r b) (made_with r g.0) in
    let none = nothing_behind (made_with r f.0) (omega arith) in
    sym (e ∙ (ap (λ xs. made_with r a ++ xs) none ∙ append_nil (made_with r a)))
