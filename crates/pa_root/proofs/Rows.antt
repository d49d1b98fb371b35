-- Titles that are cut side by side.
use Rattle.std.proofs.Common.{◌≡◌, ℕ, zero, suc, ◌+◌, ◌-◌, ◌*◌, ◌<◌, ◌≤◌, List, [], ◌∷◌, ◌++◌, refl, sym, ◌∙◌, ap, subst, arith, inl, inr}
use Rattle.std.specs.Prelude.{◌≢◌, AllPairs, Contains}
use Rattle.std.proofs.lemmas.List.Elements.{Contains-append_cases}
use Rattle.pa_slot.specs.declared.title.Title.{Title}
use Rattle.pa_region.specs.declared.view.View.{View}
use Rattle.pa_region.specs.Views.{seen_of}
use Rattle.pa_region.specs.Cuts.{CanCut, after_cut}
use Rattle.pa_lists.proofs.Members.{not_in_none, first_in, later_in, in_cases}
use Rattle.pa_lists.proofs.Pairs.{pairs_none, pairs_cons}
use Rattle.pa_root.specs.Filling.{CanCutAll, after_cuts}
use Rattle.pa_root.specs.Cutting.{title_beside, titles_beside, NoneSeen, CutsGoOn, MapsCanBeCut}
use Rattle.pa_root.proofs.Batches.{beside_cuts}

parts : (ts us : List Title) (v : View) → CanCutAll (ts ++ us) v → CanCutAll ts v × CanCutAll us (after_cuts ts v)
parts [] us v can = (tt, can)
parts (t ∷ ts) us v (first, rest) = let (a, b) = parts ts us (after_cut t v) rest in ((first, a), b)

view : (ts us : List Title) (v : View) → after_cuts (ts ++ us) v ≡ after_cuts us (after_cuts ts v)
view [] us v = refl
view (t ∷ ts) us v = view ts us (after_cut t v)

pub cuts_go_on : CutsGoOn
cuts_go_on = record { parts = parts; view = view; seen = λ ts v t. (beside_cuts ts v).seen t }

-- one more, at the end
pub one_beside : (first : Title) (from n : ℕ) → titles_beside first from (n + 1) ≡ titles_beside first from n ++
    title_beside first (from + n) ∷ []
one_beside first from zero = let e : from + 0 ≡ from = omega arith in ap (λ k. title_beside first k ∷ []) (sym e)
one_beside first from (suc n) =
    let e : from + 1 + n ≡ from + suc n = omega arith in
    let s : suc n + 1 ≡ suc (n + 1) = omega arith in
    ap (titles_beside first from) s
    ∙ ap (λ ts. title_beside first from ∷ ts) (one_beside first (from + 1) n ∙
    ap (λ k. titles_beside first (from + 1) n ++ title_beside first k ∷ []) e)

-- those after the first n
pub beside_parts : (first : Title) (from n m : ℕ) → titles_beside first from (n + m) ≡ titles_beside first from n ++
    titles_beside first (from + n) m
beside_parts first from zero m = let e : from + 0 ≡ from = omega arith in let z : 0 + m ≡ m = omega arith in
    ap (titles_beside first from) z ∙ ap (λ k. titles_beside first k m) (sym e)
beside_parts first from (suc n) m =
    let e : from + 1 + n ≡ from + suc n = omega arith in
    let s : suc n + m ≡ suc (n + m) = omega arith in
    ap (titles_beside first from) s
    ∙ ap (λ ts. title_beside first from ∷ ts) (beside_parts first (from + 1) n m ∙
    ap (λ k. titles_beside first (from + 1) n ++ titles_beside first k m) e)

-- the next of a row can be cut after those before it
pub next_can : (first : Title) (count n : ℕ) (v w : View) → n < count → CanCutAll (titles_beside first 0 count) v →
    w ≡ after_cuts (titles_beside first 0 n) v →
    CanCut (title_beside first n) w
next_can first count n v w below can e =
    let split : count ≡ n + suc (count - n - 1) = omega arith in
    let all : CanCutAll (titles_beside first 0 n ++ titles_beside first (0 + n) (suc (count - n - 1))) v =
    subst (λ ts. CanCutAll ts v) (ap (titles_beside first 0) split ∙ beside_parts first 0 n (suc (count - n - 1))) can in
    let (a, b) = parts (titles_beside first 0 n) (titles_beside first (0 + n) (suc (count - n - 1))) v all in
    let here : CanCut (title_beside first (0 + n)) (after_cuts (titles_beside first 0 n) v) = b.0 in
    let z : 0 + n ≡ n = omega arith in
    subst (λ k. CanCut (title_beside first k) w) z (subst (λ x. CanCut (title_beside first (0 + n)) x) (sym e) here)

-- the view after it
pub next_view : (first : Title) (n : ℕ) (v w x : View) → w ≡ after_cuts (titles_beside first 0 n) v →
    x ≡ after_cut (title_beside first n) w →
    x ≡ after_cuts (titles_beside first 0 (n + 1)) v
next_view first n v w x e f =
    let z : n ≡ 0 + n = omega arith in
    let more : titles_beside first 0 (n + 1) ≡ titles_beside first 0 n ++ title_beside first n ∷ [] =
    one_beside first 0 n ∙ ap (λ k. titles_beside first 0 n ++ title_beside first k ∷ []) (sym z) in
    f ∙ ap (after_cut (title_beside first n)) e
    ∙ sym (ap (λ ts. after_cuts ts v) more ∙ view (titles_beside first 0 n) (title_beside first n ∷ []) v)

-- the next title of a row is new as those before it
pub next_new : (first : Title) (n : ℕ) (v w : View) → w ≡ after_cuts (titles_beside first 0 n) v → NoneSeen v (titles_beside first 0 n) →
    seen_of (after_cut (title_beside first n) w) (title_beside first n) ≡ 0 → NoneSeen v (titles_beside first 0 (n + 1))
next_new first n v w e new now t among =
    let z : n ≡ 0 + n = omega arith in
    let more : titles_beside first 0 (n + 1) ≡ titles_beside first 0 n ++ title_beside first n ∷ [] =
    one_beside first 0 n ∙ ap (λ k. titles_beside first 0 n ++ title_beside first k ∷ []) (sym z) in
    elim (Contains-append_cases (titles_beside first 0 n) (title_beside first n ∷ []) t (subst (λ ts. Contains ts t) more among)) [
      | inl old ↦ new t old
      | inr last ↦ elim (in_cases (title_beside first n) t [] last) [
        | inl here ↦
            let zero_here : seen_of v (title_beside first n) ≡ 0 =
            sym ((beside_cuts (titles_beside first 0 n) v).seen (title_beside first n)) ∙
            ap (λ x. seen_of x (title_beside first n)) (sym e) ∙ now in
            subst (λ x. seen_of v x ≡ 0) here zero_here
        | inr none ↦ absurd (not_in_none t none)
      ]
    ]

-- ---- what is in a row

pub in_row : (first : Title) (from count : ℕ) (t : Title) → Contains (titles_beside first from count) t → (k : ℕ) × (k < count) ×
    (t ≡ title_beside first (from + k))
in_row first from zero t among = absurd (not_in_none t among)
in_row first from (suc n) t among = elim (in_cases (title_beside first from) t (titles_beside first (from + 1) n) among) [
  | inl here ↦ let z : from ≡ from + 0 = omega arith in (0, omega arith, sym here ∙ ap (title_beside first) z)
  | inr later ↦
      let (k, below, e) = in_row first (from + 1) n t later in
      let s : from + 1 + k ≡ from + suc k = omega arith in
      (suc k, omega arith, e ∙ ap (title_beside first) s)
]

pub row_has : (first : Title) (from count k : ℕ) → k < count → Contains (titles_beside first from count) (title_beside first (from + k))
row_has first from zero k below = absurd (omega arith)
row_has first from (suc n) zero below =
    let z : from ≡ from + 0 = omega arith in
    subst (λ j. Contains (titles_beside first from (suc n)) (title_beside first j)) z
    (first_in (title_beside first from) (titles_beside first (from + 1) n))
row_has first from (suc n) (suc k) below =
    let s : from + 1 + k ≡ from + suc k = omega arith in
    subst (λ j. Contains (titles_beside first from (suc n)) (title_beside first j)) s
    (later_in (title_beside first from) (title_beside first (from + 1 + k)) (titles_beside first (from + 1) n)
    (row_has first (from + 1) n k (omega arith)))

pub row_once : (first : Title) (from count : ℕ) → 1 ≤ first.len → AllPairs ◌≢◌ (titles_beside first from count)
row_once first from zero long = pairs_none (λ (a : Title) (b : Title). a ≢ b)
row_once first from (suc n) long =
    pairs_cons (λ (a : Title) (b : Title). a ≢ b) (title_beside first from) (titles_beside first (from + 1) n)
    (λ u among same.
    let (k, below, e) = in_row first (from + 1) n u among in
    let start : first.start + first.len * from ≡ first.start + first.len * (from + 1 + k) = ap (λ (t : Title). t.start) (same ∙ e) in
    let more : first.len * (from + 1 + k) ≡ first.len * from + first.len + first.len * k = grind arith in
    absurd (omega arith))
    (row_once first (from + 1) n long)

-- ---- direct maps

pub maps_can_be_cut : MapsCanBeCut
maps_can_be_cut first born len v whole long raw = record {
  start_aligned = omega arith;
  len_aligned = whole;
  long = long;
  floors = λ b covers. let low = covers.0 in let high = covers.1 in raw b (omega arith, omega arith);
}

-- ---- one step of the loop

-- the next title is after this one
pub next_place : (first next : Title) (n : ℕ) → next ≡ title_beside first n →
    (let x : Title = record { start = next.start + next.len; len = next.len; born = next.born } in x ≡ title_beside first (n + 1))
next_place first next n e =
    let more : first.start + first.len * n + first.len ≡ first.start + first.len * (n + 1) = grind arith in
    ap (λ (y : Title). let x : Title = record { start = y.start + y.len; len = y.len; born = y.born } in x) e
    ∙ ap (λ k. let x : Title = record { start = k; len = first.len; born = first.born } in x) more

-- all of the row are new to the seat that cut them
pub all_new : (first : Title) (count done : ℕ) (v w : View) → done ≡ count → w ≡ after_cuts (titles_beside first 0 done) v →
    NoneSeen v (titles_beside first 0 done) →
    NoneSeen w (titles_beside first 0 count)
all_new first count done v w e f new t among =
    ap (λ x. seen_of x t) f ∙ (beside_cuts (titles_beside first 0 done) v).seen t ∙
    new t (subst (λ n. Contains (titles_beside first 0 n) t) (sym e) among)
