-- The first part after a step: what the views know of words.
use Rattle.std.proofs.Common.{◌≡◌, ℕ, ◌+◌, ◌*◌, ◌<◌, ◌≤◌, List, length, set, refl, sym, ◌∙◌, ap, subst, arith, ◌⊎◌, inl, inr}
use Rattle.std.specs.Prelude.{slice_index}
use Rattle.std.proofs.lemmas.Bool.{cases_lt}
use Rattle.std.proofs.lemmas.Bool.Decides.{eqb_tells}
use mathlib.Core.Option.{some, some-injective}
use lib.ListN.{get_elem?}
use Rattle.pa_slot.specs.declared.title.Title.{Title}
use Rattle.pa_slot.specs.Titles.{Covers, count_place, IsContentOf}
use Rattle.pa_slot.specs.Holdings.{Thing, RawByte, FreeTitle, OwnOf, RefOf, IsTitleHeld}
use Rattle.pa_machine.specs.Good.{IsGood}
use Rattle.pa_machine.specs.Events.{total_of}
use Rattle.pa_slot.proofs.Arith.{held_small}
use Rattle.pa_machine.proofs.Parts.{free_or, word_covered}
use Rattle.pa_slot.specs.Titles.{count_word}
use Rattle.pa_region.specs.declared.view.View.{View}
use Rattle.pa_region.specs.Views.{held_of_view, byte_words, shown, Knows}
use Rattle.pa_region.specs.Rule.{Values}
use Rattle.pa_region.proofs.Adding.{sum_pair, sum_split}
use Rattle.pa_region.proofs.Pieces.{total_sum, held_within, frees_have, owns_have}
use Rattle.pa_region.proofs.Shown.{put_there, put_beside}

-- the core that is shown is good
abbrev pub ShownGood : List ℕ → List View → Type 0
ShownGood words views = IsGood (byte_words words) (total_of (shown words views))

-- how many times a view holds a title free or as an Own
abbrev sole : View → Title → ℕ
sole v t = held_of_view v (FreeTitle t) + held_of_view v (OwnOf t)

-- how many times it holds it in any way
abbrev any_of : View → Title → ℕ
any_of v t = sole v t + held_of_view v (RefOf t)

-- a known word is a raw one, or one of a title that the view holds free or as an Own
knows_where : (v : View) (q : ℕ) → Knows v q → (0 < held_of_view v (RawByte (8 * q))) ⊎ ((t : Title) × (0 < sole v t) × Covers t (8 * q))
knows_where v q (inl raw) = inl raw
knows_where v q (inr (inl free)) = let e = frees_have v free.0 in let h = free.1 in inr (free.0, omega arith, free.2)
knows_where v q (inr (inr own)) = let e = owns_have v own.0 in let h = own.1 in let c = own.2.1 in
    inr (own.0, omega arith, (own.2.0, omega arith))

-- no title is free or an Own in two views
sole_once : (words : List ℕ) (views : List View) (i j : ℕ) (v u : View) (t : Title) → ShownGood words views → get_elem? views i ≡ some v →
    get_elem? views j ≡ some u → (j ≡ i → ⊥) → 0 < sole v t → 0 < sole u t → ⊥
sole_once words views i j v u t g at_i at_j ne mine other =
    let pair = sum_pair (λ w. sole w t) views i j v u at_i at_j ne in
    let split = sum_split (λ w. held_of_view w (FreeTitle t)) (λ w. held_of_view w (OwnOf t)) (λ w. sole w t) views (λ w. refl_at w) in
    let f = total_sum words views (FreeTitle t) in
    let o = total_sum words views (OwnOf t) in
    let c = g.counted t (omega arith) in
    let owns = c.owns in
    let small = held_small (count_word (byte_words words) t) in
    elim (free_or (count_word (byte_words words) t)) [
      | inl y ↦ let a = c.free y in let b = y.0 in absurd (omega arith)
      | inr n ↦ let a = c.taken n in absurd (omega arith)
    ]
  where
    refl_at : (w : View) → held_of_view w (FreeTitle t) + held_of_view w (OwnOf t) ≡ sole w t
    refl_at w = omega arith

-- a view that holds a title free is the only one that has it
free_only : (words : List ℕ) (views : List View) (i j : ℕ) (v u : View) (t : Title) → ShownGood words views → get_elem? views i ≡ some v →
    get_elem? views j ≡ some u → (j ≡ i → ⊥) → 0 < any_of v t → 0 < held_of_view u (FreeTitle t) → ⊥
free_only words views i j v u t g at_i at_j ne mine other =
    let pair = sum_pair (λ w. any_of w t) views i j v u at_i at_j ne in
    let split = sum_split (λ w. held_of_view w (FreeTitle t)) (λ w. held_of_view w (OwnOf t)) (λ w. sole w t) views (λ w. refl_sole w) in
    let again = sum_split (λ w. sole w t) (λ w. held_of_view w (RefOf t)) (λ w. any_of w t) views (λ w. refl_any w) in
    let f = total_sum words views (FreeTitle t) in
    let o = total_sum words views (OwnOf t) in
    let r = total_sum words views (RefOf t) in
    let within = held_within words views j u at_j (FreeTitle t) in
    let c = g.counted t (omega arith) in
    let owns = c.owns in
    let refs = c.refs in
    elim (free_or (count_word (byte_words words) t)) [
      | inl y ↦ let a = c.free y in let b = y.0 in let d = y.1 in absurd (omega arith)
      | inr n ↦ let a = c.taken n in absurd (omega arith)
    ]
  where
    refl_sole : (w : View) → held_of_view w (FreeTitle t) + held_of_view w (OwnOf t) ≡ sole w t
    refl_sole w = omega arith

    refl_any : (w : View) → sole w t + held_of_view w (RefOf t) ≡ any_of w t
    refl_any w = omega arith

-- a byte is raw at most once, and not inside a held title
pub raw_once : (words : List ℕ) (total : Thing → ℕ) (b : ℕ) → IsGood words total → total (RawByte b) ≤ 1
raw_once words total b g = elim (cases_lt b (8 * length words)) [
  | inl below ↦ elim (g.divided.bytes b below) [ inl r ↦ let z = r.0 in omega arith | inr r ↦ let z = r.0 in omega arith ]
  | inr past ↦ let z = g.divided.outside b past in omega arith
]

pub raw_outside : (words : List ℕ) (total : Thing → ℕ) (b : ℕ) (t : Title) → IsGood words total → IsTitleHeld total t → Covers t b →
    total (RawByte b) ≡ 0
raw_outside words total b t g held covers = elim (cases_lt b (8 * length words)) [
  | inl below ↦ elim (g.divided.bytes b below) [ inl r ↦ absurd (r.1 t held covers) | inr r ↦ r.0 ]
  | inr past ↦ g.divided.outside b past
]

-- two views never know one word
pub knows_apart : (words : List ℕ) (views : List View) (i j : ℕ) (v u : View) (q : ℕ) → ShownGood words views → get_elem? views i ≡ some v →
    get_elem? views j ≡ some u → (j ≡ i → ⊥) → Knows v q → Knows u q → ⊥
knows_apart words views i j v u q g at_i at_j ne mine other = go (knows_where v q mine) (knows_where u q other)
  where
    title_held : (k : ℕ) (w : View) (t : Title) → get_elem? views k ≡ some w → 0 < sole w t → IsTitleHeld (total_of (shown words views)) t
    title_held k w t at_k has =
        let f = held_within words views k w at_k (FreeTitle t) in
        let o = held_within words views k w at_k (OwnOf t) in
        omega arith

    go : (0 < held_of_view v (RawByte (8 * q))) ⊎ ((t : Title) × (0 < sole v t) × Covers t (8 * q)) →
        (0 < held_of_view u (RawByte (8 * q))) ⊎ ((t : Title) × (0 < sole u t) × Covers t (8 * q)) → ⊥
    go (inl raw) (inl too) =
        let pair = sum_pair (λ w. held_of_view w (RawByte (8 * q))) views i j v u at_i at_j ne in
        let s = total_sum words views (RawByte (8 * q)) in
        let few = raw_once (byte_words words) (total_of (shown words views)) (8 * q) g in
        absurd (omega arith)
    go (inl raw) (inr t) =
        let w = held_within words views i v at_i (RawByte (8 * q)) in
        let z = raw_outside (byte_words words) (total_of (shown words views)) (8 * q) t.0 g (title_held j u t.0 at_j t.1) t.2 in
        absurd (omega arith)
    go (inr t) (inl raw) =
        let w = held_within words views j u at_j (RawByte (8 * q)) in
        let z = raw_outside (byte_words words) (total_of (shown words views)) (8 * q) t.0 g (title_held i v t.0 at_i t.1) t.2 in
        absurd (omega arith)
    go (inr t) (inr r) =
        let same = g.divided.apart t.0 r.0 (8 * q) (title_held i v t.0 at_i t.1) (title_held j u r.0 at_j r.1) t.2 r.2 in
        sole_once words views i j v u r.0 g at_i at_j ne (subst (λ (z : Title). 0 < sole v z) same t.1) r.1

-- only a view that has the title knows its count word
pub place_unknown : (words : List ℕ) (views : List View) (i j : ℕ) (v u : View) (t : Title) → ShownGood words views →
    get_elem? views i ≡ some v →
    get_elem? views j ≡ some u → (j ≡ i → ⊥) → IsTitleHeld (held_of_view v) t → Knows u (count_place t) → ⊥
place_unknown words views i j v u t g at_i at_j ne mine other = go other
  where
    held : IsTitleHeld (total_of (shown words views)) t
    held =
        let f = held_within words views i v at_i (FreeTitle t) in
        let o = held_within words views i v at_i (OwnOf t) in
        let r = held_within words views i v at_i (RefOf t) in
        omega arith

    covers : Covers t (8 * count_place t)
    covers = word_covered (length (byte_words words)) t (count_place t) (g.divided.well t held) (omega arith, omega arith)

    go : Knows u (count_place t) → ⊥
    go (inl raw) =
        let w = held_within words views j u at_j (RawByte (8 * count_place t)) in
        let z = raw_outside (byte_words words) (total_of (shown words views)) (8 * count_place t) t g held covers in
        absurd (omega arith)
    go (inr (inl free)) =
        let e = frees_have u free.0 in
        let w = held_within words views j u at_j (FreeTitle free.0) in
        let has = free.1 in
        let same = g.divided.apart free.0 t (8 * count_place t) (omega arith) held free.2 covers in
        free_only words views i j v u t g at_i at_j ne mine (subst (λ (z : Title). 0 < held_of_view u (FreeTitle z)) same (omega arith))
    go (inr (inr own)) =
        let e = owns_have u own.0 in
        let w = held_within words views j u at_j (OwnOf own.0) in
        let has = own.1 in
        let c = own.2.1 in
        let same = g.divided.apart own.0 t (8 * count_place t) (omega arith) held (own.2.0, omega arith) covers in
        let well = g.divided.well t held in
        let a = well.start_aligned in let b = well.len_aligned in let d = well.long in
        let inside : IsContentOf t (8 * count_place t) = subst (λ (z : Title). IsContentOf z (8 * count_place t)) same own.2 in
        let p = inside.1 in
        absurd (omega arith)

-- After a step of one view what the views know is true, if the step left each word that another view knows, and if
-- what the view itself knows is true.
pub values_step : (words after : List ℕ) (views : List View) (i : ℕ) (v w : View) → get_elem? views i ≡ some v → Values words views →
    length after ≡ length words → length w.words ≡ length v.words →
    ((j q : ℕ) (u : View) → get_elem? views j ≡ some u → (j ≡ i → ⊥) → Knows u q → slice_index after q ≡ slice_index words q) →
    ((q : ℕ) → Knows w q → slice_index w.words q ≡ slice_index after q) → Values after (set views i w)
values_step words after views i v w at_i vs same_length long others mine = record {
  long = λ j u at_j. elim (eqb_tells j i) [
    | inl y ↦
        let e = some-injective w u (sym (put_there views i v w at_i) ∙ subst (λ (k : ℕ). get_elem? (set views i w) k ≡ some u) y.1 at_j) in
        subst (λ (z : View). length z.words ≡ length after) e (long ∙ (vs.long i v at_i ∙ sym same_length))
    | inr n ↦ vs.long j u (sym (put_beside views i j w n.1) ∙ at_j) ∙ sym same_length
  ];
  known = λ j q u at_j knows. elim (eqb_tells j i) [
    | inl y ↦
        let e = some-injective w u (sym (put_there views i v w at_i) ∙ subst (λ (k : ℕ). get_elem? (set views i w) k ≡ some u) y.1 at_j) in
        subst (λ (z : View). Knows z q → slice_index z.words q ≡ slice_index after q) e (mine q) knows
    | inr n ↦
        let before = sym (put_beside views i j w n.1) ∙ at_j in
        vs.known j q u before knows ∙ sym (others j q u before n.1 knows)
  ];
}

-- if no word changes, and the view knows no more than before
pub values_same : (words : List ℕ) (views : List View) (i : ℕ) (v w : View) → get_elem? views i ≡ some v → Values words views →
    w.words ≡ v.words → ((q : ℕ) → Knows w q → Knows v q) → Values words (set views i w)
values_same words views i v w at_i vs same knows =
    values_step words words views i v w at_i vs refl (ap length same) (λ j q u at_j ne k. refl)
    (λ q k. ap (λ ws. slice_index ws q) same ∙ vs.known i q v at_i (knows q k))
