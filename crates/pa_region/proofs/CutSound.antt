-- The table lets a seat cut and uncut: the conditions of its calls, and what a seat's type keeps.
use Rattle.std.proofs.Common.{◌≡◌, ℕ, ◌+◌, ◌-◌, ◌/◌, ◌<◌, List, set, refl, sym, ◌∙◌, ap, subst, arith, inl, inr}
use Rattle.std.proofs.lemmas.List.{set-get_or, get_or-set_same}
use Rattle.std.proofs.lemmas.List.Sums.{sum_by-cons}
use Rattle.atomic_table.specs.Seated.{TableId}
use Rattle.atomic_table.specs.Table.{Me, Allows, keeps}
use Rattle.atomic_table.specs.Table.{State as TableState}
use Rattle.pa_slot.specs.declared.title.Title.{Title}
use Rattle.pa_slot.specs.Titles.{same_title, IsWellFormed, count_place, count_word}
use Rattle.pa_slot.specs.Holdings.{FreePiece, RawByte, one, amount}
use Rattle.pa_slot.proofs.Same.{title_one}
use Rattle.pa_machine.proofs.Cutting.{covers_or, uncovered_raw}
use Rattle.pa_region.specs.declared.view.View.{View}
use Rattle.pa_region.specs.Views.{seen_of}
use Rattle.pa_region.specs.Rule.{IsKept}
use Rattle.pa_region.specs.Shares.{IsSeatSound, byte_word_count, count_offset}
use Rattle.pa_region.specs.Stores.{after_store, HasRawWord, CanStore, StoreTells}
use Rattle.pa_region.specs.Cuts.{CanCut, titled, after_cut, CanUncut, after_uncut}
use Rattle.pa_region.proofs.Adding.{sum_none}
use Rattle.pa_region.proofs.Pieces.{held_split}
use Rattle.pa_region.proofs.Stays.{low_held}
use Rattle.pa_region.proofs.Parting.{raws_part}
use Rattle.pa_region.proofs.Writing.{Leaves}
use Rattle.pa_region.proofs.CutStep.{cut_keeps, cut_unseen}
use Rattle.pa_region.proofs.UncutStep.{uncut_keeps, uncut_changes, uncut_fewer}

-- a title that can be cut lies in the seat's region
pub cut_well : (region : TableId) (t : Title) (v : View) → IsSeatSound region v → CanCut t v → IsWellFormed (byte_word_count region) t
cut_well region t v sound can =
    let long = can.long in
    let low = can.floors (t.start + t.len - 1) (omega arith, omega arith) in
    let raw = low_held v (t.start + t.len - 1) t.born in
    let below = sound.raw (t.start + t.len - 1) (omega arith) in
    record { start_aligned = can.start_aligned; len_aligned = can.len_aligned; long = can.long; inside = omega arith }

-- a store to its count word is one to a raw word
pub cut_store : (t : Title) (v : View) → CanCut t v → CanStore (count_offset t) v
cut_store t v can =
    let a = can.start_aligned in let b = can.len_aligned in let c = can.long in (
      omega arith,
      inl (λ byte low high. let f = can.floors byte (omega arith, omega arith) in let raw = low_held v byte t.born in omega arith),
    )

-- after it the title can still be cut, and its count word is known to be 0
pub cut_still : (t : Title) (v : View) → CanCut t v → CanCut t (after_store (count_offset t) 0 v)
cut_still t v can = record { start_aligned = can.start_aligned; len_aligned = can.len_aligned; long = can.long; floors = can.floors }

pub cut_zero : (region : TableId) (t : Title) (v : View) → IsSeatSound region v → CanCut t v →
    count_word (after_store (count_offset t) 0 v).words t ≡ 0
cut_zero region t v sound can =
    let well = cut_well region t v sound can in
    let a = well.start_aligned in let b = well.len_aligned in let c = well.long in let d = well.inside in let e = sound.long in
    let place : count_offset t / 8 ≡ count_place t = omega arith in
    rw place (get_or-set_same v.words (count_place t) 0 0 (omega arith))

-- the two together are a cut
pub cut_is : (t : Title) (v : View) → CanCut t v → StoreTells (count_offset t) v (after_store (count_offset t) 0 v) →
    titled t (after_store (count_offset t) 0 v) ≡ after_cut t v
cut_is t v can told =
    let a = can.start_aligned in let b = can.len_aligned in let c = can.long in
    let place : count_offset t / 8 ≡ count_place t = omega arith in
    let raw : HasRawWord v (count_offset t) = λ byte low high. let f = can.floors byte (omega arith, omega arith) in
    let r = low_held v byte t.born in omega arith in
    ap (λ os. record (titled t (after_store (count_offset t) 0 v)) { owns = os }) (told.plain (inl raw))
    ∙ ap (λ (p : ℕ). record (after_cut t v) { words = set v.words p 0 }) place

-- whatever the table is, a seat that can cut the title may cut it
pub cut_allowed : (t : Title) (slots id place : ℕ) (me : Me (Unit {0}) View) → CanCut t me.0 → count_word me.0.words t ≡ 0 →
    Allows (λ (s : TableState (Unit {0}) View). IsKept s.words s.views) slots id me place (λ n. n)
    (λ word after. Leaves (titled t me.0) me after × (seen_of me.0 t ≡ 0))
cut_allowed t slots id place me can zero s k homes at_id small = (
  titled t me.0,
  keeps,
  tt,
  subst (λ (ws : List ℕ). IsKept ws (set s.views id (titled t me.0))) (sym (set-get_or s.words place 0))
      (cut_keeps t s.words s.views id me.0 k at_id can zero),
  ((refl, refl), (cut_unseen t s.words s.views id me.0 k at_id can).1),
)

-- a seat that can uncut a title may do so
pub uncut_allowed : (t : Title) (slots id place : ℕ) (me : Me (Unit {0}) View) → CanUncut t me.0 →
    Allows (λ (s : TableState (Unit {0}) View). IsKept s.words s.views) slots id me place (λ n. n)
    (λ word after. Leaves (after_uncut t me.0) me after)
uncut_allowed t slots id place me can s k homes at_id small = (
  after_uncut t me.0,
  keeps,
  tt,
  subst (λ (ws : List ℕ). IsKept ws (set s.views id (after_uncut t me.0))) (sym (set-get_or s.words place 0))
      (uncut_keeps t s.words s.views id me.0 k at_id can),
  (refl, refl),
)

-- the word that is loaded is one of the region's
pub title_inside : (region table : TableId) (t : Title) (place at_byte : ℕ) → region ≡ table → IsWellFormed (byte_word_count region) t →
    at_byte ≡ count_offset t → place ≡ at_byte / 8 →
    place < table.words
title_inside region table t place at_byte same well at_is e =
    let words_are : region.words ≡ table.words = ap (λ (z : TableId). z.words) same in
    let a = well.start_aligned in let b = well.len_aligned in let c = well.long in let d = well.inside in
    omega arith

-- what a seat's type keeps goes on after a cut
pub titled_sound : (region : TableId) (t : Title) (v : View) → IsSeatSound region v → CanCut t v → IsSeatSound region (titled t v)
titled_sound region t v sound can = record {
  small = sound.small;
  well = λ u has.
      let c = sum_by-cons (λ x. one (same_title x u)) t v.frees in
      elim (title_one t u) [
        | inl y ↦ subst (λ (z : Title). IsWellFormed (byte_word_count region) z) y.1 (cut_well region t v sound can)
        | inr n ↦ let z = n.0 in sound.well u (omega arith)
      ];
  raw = λ b has.
      let p = raws_part t.start (t.start + t.len) (omega arith) v.raws (RawByte b) in
      let before = held_split v (RawByte b) in
      let after = held_split (titled t v) (RawByte b) in
      let f = sum_none (λ (u : Title). amount (RawByte b) (FreePiece u)) (titled t v).frees (λ u. refl) in
      let g = sum_none (λ (u : Title). amount (RawByte b) (FreePiece u)) v.frees (λ u. refl) in
      sound.raw b (omega arith);
  long = sound.long;
}

-- what the type of a seat keeps holds after an uncut
pub uncut_sound : (region : TableId) (t : Title) (v : View) → IsSeatSound region v → CanUncut t v → IsSeatSound region (after_uncut t v)
uncut_sound region t v sound can = record {
  small = sound.small;
  well = λ u has. let l = uncut_fewer t v can.0 u in sound.well u (omega arith);
  raw = λ b has. elim (covers_or t b) [
    | inl y ↦ let free = can.0 in let well = sound.well t (omega arith) in let i = well.inside in let h = y.1 in omega arith
    | inr n ↦
        let c = uncut_changes t v can.0 (RawByte b) in
        let far = uncovered_raw t.start t.len b n in
        sound.raw b (omega arith)
  ];
  long = sound.long;
}
