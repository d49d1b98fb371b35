-- What the types of seats and notes keep over a hand and a join, and the conditions of the table's calls.
use Rattle.std.proofs.Common.{◌≡◌, ℕ, ◌+◌, ◌≤◌, length, sym, ◌∙◌, arith, inl, inr}
use Rattle.std.proofs.lemmas.Bool.{cases_lt}
use Rattle.atomic_table.specs.Seated.{TableId}
use Rattle.atomic_table.specs.Table.{Splits, Joins}
use Rattle.atomic_table.specs.Table.{State as TableState}
use Rattle.pa_slot.specs.declared.title.Title.{Title}
use Rattle.pa_slot.specs.Titles.{IsWellFormed}
use Rattle.pa_slot.specs.Holdings.{Thing, RawByte, FreeTitle, OwnOf, RefOf}
use Rattle.pa_region.specs.declared.view.View.{View}
use Rattle.pa_region.specs.Views.{held_of_view, HasTitle}
use Rattle.pa_region.specs.Rule.{IsKept}
use Rattle.pa_region.specs.Hands.{Parcel, CanHand, CanTake, left_after, given_after, united, spent_of}
use Rattle.pa_region.specs.Shares.{IsSeatSound, byte_word_count}
use Rattle.pa_region.proofs.Pieces.{frees_have, owns_have, refs_have}
use Rattle.pa_region.proofs.Shown.{put_beside}
use Rattle.pa_region.proofs.HandStep.{hand_parts, hand_keeps}
use Rattle.pa_region.proofs.JoinStep.{united_parts, join_keeps}
use Rattle.pa_region.proofs.Merging.{merged_long}

-- a view that holds no more is as sound
sound_less : (region : TableId) (v w : View) → IsSeatSound region v → ((x : Thing) → held_of_view w x ≤ held_of_view v x) →
    length w.words ≡ length v.words → IsSeatSound region w
sound_less region v w s less long = record {
  small = s.small;
  well = λ t has. s.well t (titles t has);
  raw = λ b has. let e = less (RawByte b) in s.raw b (omega arith);
  long = long ∙ s.long;
}
  where
    titles : (t : Title) → HasTitle w t → HasTitle v t
    titles t has =
        let a = less (FreeTitle t) in let b = less (OwnOf t) in let c = less (RefOf t) in
        let fv = frees_have v t in let ov = owns_have v t in let rv = refs_have v t in
        let fw = frees_have w t in let ow = owns_have w t in let rw1 = refs_have w t in
        omega arith

pub left_sound : (region : TableId) (p : Parcel) (v : View) → CanHand p v → IsSeatSound region v → IsSeatSound region (left_after p v)
left_sound region p v can s =
    sound_less region v (left_after p v) s (λ x. let e = (hand_parts p v can).things x in omega arith) (omega arith)

pub given_sound : (region : TableId) (p : Parcel) (v : View) → CanHand p v → IsSeatSound region v → IsSeatSound region (given_after p v)
given_sound region p v can s =
    sound_less region v (given_after p v) s (λ x. let e = (hand_parts p v can).things x in omega arith) (omega arith)

-- what the type of a seat keeps holds of two views together
pub united_sound : (region : TableId) (v w : View) → IsSeatSound region v → IsSeatSound region w → IsSeatSound region (united v w)
united_sound region v w s r = record {
  small = s.small;
  well = λ t has. titles t has;
  raw = λ b has.
      let e = (united_parts v w).things (RawByte b) in
      elim (cases_lt 0 (held_of_view v (RawByte b))) [ inl y ↦ s.raw b y | inr n ↦ r.raw b (omega arith) ];
  long = merged_long v 0 v.words w.words (s.long ∙ sym r.long) ∙ s.long;
}
  where
    titles : (t : Title) → HasTitle (united v w) t → IsWellFormed (byte_word_count region) t
    titles t has =
        let a = (united_parts v w).things (FreeTitle t) in let b = (united_parts v w).things (OwnOf t) in
        let c = (united_parts v w).things (RefOf t) in
        let fb = frees_have (united v w) t in let ob = owns_have (united v w) t in let rb = refs_have (united v w) t in
        let fv = frees_have v t in let ov = owns_have v t in let rv = refs_have v t in
        let fw = frees_have w t in let ow = owns_have w t in let rw1 = refs_have w t in
        elim (cases_lt 0 (held_of_view v (FreeTitle t) + held_of_view v (OwnOf t) + held_of_view v (RefOf t))) [
          | inl y ↦ s.well t (omega arith)
          | inr n ↦ r.well t (omega arith)
        ]

-- the table lets a seat be parted so
pub hand_allowed : (p : Parcel) (id : ℕ) (v : View) → CanHand p v →
    Splits (λ (s : TableState (Unit {0}) View). IsKept s.words s.views) id v (left_after p v) (given_after p v)
hand_allowed p id v can s k at_i = hand_keeps p s.words s.views id v k at_i can

-- two seats may be joined
pub take_allowed : (id other : ℕ) (v w : View) → CanTake v w →
    Joins (λ (s : TableState (Unit {0}) View). IsKept s.words s.views) id v other w (united v w) (spent_of w)
take_allowed id other v w can s k at_i ne at_j =
    join_keeps s.words s.views id other v w k at_i (sym (put_beside s.views id other (united v w) ne) ∙ at_j) ne at_j can
