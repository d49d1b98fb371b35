-- The table lets a seat make its steps: the conditions of its calls.
use Rattle.std.proofs.Common.{◌≡◌, ℕ, ◌+◌, ◌%◌, ◌<◌, List, set, get_or, refl, sym, ◌∙◌, ap, subst, arith, inl, inr}
use Rattle.std.specs.Prelude.{slice_index}
use mathlib.Core.Option.{some}
use lib.ListN.{get_elem?}
use Rattle.pa_slot.specs.declared.title.Title.{Title}
use Rattle.pa_slot.specs.declared.word.Step.{Step}
use Rattle.pa_slot.specs.declared.word.Step.TheVariants.{Issue, Copy, Reset, Free, Write}
use Rattle.pa_slot.specs.Count.{CanStep, stepped}
use Rattle.pa_slot.specs.Run.{IsFree}
use Rattle.pa_slot.specs.Titles.{IsWellFormed, count_place, count_word}
use Rattle.pa_slot.specs.Holdings.{RawByte, FreeTitle, OwnOf, RefOf, IsTitleHeld}
use Rattle.pa_slot.proofs.Same.{title_tells}
use Rattle.pa_region.specs.declared.view.View.{View}
use Rattle.pa_machine.proofs.Parts.{free_or}
use Rattle.pa_region.specs.Views.{held_of_view, free_of, HasTitle, byte_words}
use Rattle.pa_region.specs.Rule.{IsKept}
use Rattle.pa_region.specs.Moves.{CanCount, IsFound, moved, after_count, after_look}
use Rattle.pa_region.proofs.Pieces.{handle_piece, held_within, moved_changes, frees_have, title_held, held_title}
use Rattle.pa_region.proofs.HolderPart.{gained_here, lost_raw, gained_raw}
use Rattle.std.proofs.Common.{◌^◌}
use Rattle.atomic_table.specs.Table.{Me, Allows, keeps}
use Rattle.atomic_table.specs.Table.{State as TableState}
use Rattle.atomic_table.specs.Seated.{TableId}
use Rattle.pa_region.specs.Shares.{IsSeatSound, byte_word_count, adds, CountTells, IsUser}
use Rattle.pa_region.proofs.Bytes.{bytes_word, held_in_all, place_below}
use Rattle.pa_region.proofs.Found.{handle_held, count_can, count_found}
use Rattle.pa_region.proofs.CountStep.{count_keeps}
use Rattle.pa_region.proofs.CountValues.{moved_long}
use Rattle.pa_region.proofs.LookStep.{look_holds}

-- the sum is the next word
pub adds_stepped : (step : Step) (word : ℕ) → CanStep step word → (word + adds step) % 2 ^ 64 ≡ stepped step word
adds_stepped Issue word can = omega arith
adds_stepped Copy word can = omega arith
adds_stepped Reset word can = omega arith
adds_stepped Free word can = omega arith
adds_stepped Write word can = omega arith

-- whatever the table is, a seat that can make the counted step may make it
pub count_allowed : (step : Step) (t : Title) (slots id place : ℕ) (me : Me (Unit {0}) View) → place ≡ count_place t →
    CanCount step t me.0 →
    Allows (λ (s : TableState (Unit {0}) View). IsKept s.words s.views) slots id me place (λ n. (n + adds step) % 2 ^ 64)
    (λ word after. CountTells step t me word after)
count_allowed step t slots id place me at_place can s k homes at_id small =
    let mine = handle_held step t me.0 can.0 in
    let held = held_in_all s.words s.views id me.0 t at_id mine in
    let word = count_word (byte_words s.words) t in
    let enabled = count_can step t s.words s.views id me.0 k at_id can in
    let found : slice_index s.words place ≡ word = ap (λ p. get_or s.words p 0) at_place ∙
    bytes_word s.words (count_place t) (place_below s.words s.views t k held) in
    let left : (slice_index s.words place + adds step) % 2 ^ 64 ≡ stepped step word = ap (λ n. (n + adds step) % 2 ^ 64) found ∙
    adds_stepped step word enabled in (
      after_count step t (slice_index s.words place) me.0,
      keeps,
      tt,
      subst (λ (n : ℕ). IsKept (set s.words place ((slice_index s.words place + adds step) % 2 ^ 64))
          (set s.views id (after_count step t n me.0))) (sym found)
          (subst (λ (n : ℕ). IsKept (set s.words place n) (set s.views id (after_count step t word me.0))) (sym left)
          (subst (λ (p : ℕ). IsKept (set s.words p (stepped step word)) (set s.views id (after_count step t word me.0))) (sym at_place)
          (count_keeps step t s.words s.views id me.0 k at_id can))),
      (
        refl,
        refl,
        subst (λ (n : ℕ). CanStep step n) (sym found) enabled,
        subst (λ (n : ℕ). IsFound t n me.0) (sym found) (count_found t s.words s.views id me.0 k at_id mine),
      ),
    )

-- a title that a view uses or holds free is held
pub user_held : (t : Title) (v : View) → IsUser t v → IsTitleHeld (held_of_view v) t
user_held t v has = title_held v t (omega arith)

-- a title that a view holds free is held
pub free_held : (t : Title) (v : View) → 0 < free_of v t → IsTitleHeld (held_of_view v) t
free_held t v has = title_held v t (omega arith)

-- a title that a view holds free has a free word, so that nobody has a handle of it
pub free_word : (t : Title) (words : List ℕ) (views : List View) (i : ℕ) (v : View) → IsKept words views → get_elem? views i ≡ some v →
    0 < free_of v t → IsFree (count_word (byte_words words) t)
free_word t words views i v k at_i mine =
    let held = held_in_all words views i v t at_i (free_held t v mine) in
    let fn = frees_have v t in
    let word = k.holders.good.counted t held in
    let f = held_within words views i v at_i (FreeTitle t) in
    elim (free_or (count_word (byte_words words) t)) [ inl y ↦ y | inr n ↦ let z = word.taken n in absurd (omega arith) ]

-- a view that holds a title free has no handle of it
pub free_alone : (t : Title) (words : List ℕ) (views : List View) (i : ℕ) (v : View) → IsKept words views → get_elem? views i ≡ some v →
    0 < free_of v t → IsUser t v → ⊥
free_alone t words views i v k at_i mine has =
    let z = free_word t words views i v k at_i mine in
    let found = count_found t words views i v k at_i (free_held t v mine) in
    let a = z.0 in let b = z.1 in
    let o = found.owns in let r = found.refs in
    absurd (omega arith)

-- what a seat's type keeps goes on: the view's titles lie in the region
pub count_sound : (region : TableId) (step : Step) (t : Title) (word : ℕ) (v : View) → CanCount step t v → IsSeatSound region v →
    IsSeatSound region (after_count step t word v)
count_sound region step t word v can sound = record {
  small = sound.small;
  well = λ u held. well u held;
  raw = λ b held.
      let moves = moved_changes step t word v (handle_piece step t v can.0) in
      let m = moves.changes (RawByte b) in
      let lost = lost_raw step t moves.sealed moves.state b in
      let gained = gained_raw step t moves.sealed (stepped step word) b in
      let now : 0 < held_of_view (moved step t word v) (RawByte b) = held in
      sound.raw b (omega arith);
  long = moved_long step t word v ∙ sound.long;
}
  where
    well : (u : Title) → HasTitle (after_count step t word v) u → IsWellFormed (byte_word_count region) u
    well u has =
        let held = title_held (after_count step t word v) u has in
        elim (title_tells t u) [
          | inl y ↦ subst (λ (z : Title). IsWellFormed (byte_word_count region) z) y.1
              (sound.well t (held_title v t (handle_held step t v can.0)))
          | inr n ↦
              let moves = moved_changes step t word v (handle_piece step t v can.0) in
              let a = moves.changes (FreeTitle u) in let b = moves.changes (OwnOf u) in let c = moves.changes (RefOf u) in
              let p = gained_here step t moves.sealed (stepped step word) u n.1 in
              let f = p.free in let o = p.own in let r = p.ref in
              let now : IsTitleHeld (held_of_view (moved step t word v)) u = held in
              sound.well u (held_title v u (omega arith))
        ]

-- what the type of a seat keeps holds after a look
pub look_sound : (region : TableId) (t : Title) (word : ℕ) (v : View) → IsSeatSound region v → IsSeatSound region (after_look t word v)
look_sound region t word v sound = record {
  small = sound.small;
  well = λ u held. well u held;
  raw = λ b held. let e = look_holds t word v (RawByte b) in sound.raw b (omega arith);
  long = sound.long;
}
  where
    well : (u : Title) → HasTitle (after_look t word v) u → IsWellFormed (byte_word_count region) u
    well u has =
        let held = title_held (after_look t word v) u has in
        let a = look_holds t word v (FreeTitle u) in let b = look_holds t word v (OwnOf u) in let c = look_holds t word v (RefOf u) in
        sound.well u (held_title v u (omega arith))

-- a counted step is allowed, given by the number that is added
pub count_allowed_by : (step : Step) (t : Title) (slots id place added : ℕ) (me : Me (Unit {0}) View) → place ≡ count_place t →
    added ≡ adds step → CanCount step t me.0 →
    Allows (λ (s : TableState (Unit {0}) View). IsKept s.words s.views) slots id me place (λ n. (n + added) % 2 ^ 64)
    (λ word after. CountTells step t me word after)
count_allowed_by step t slots id place added me at_place e can =
    subst (λ (k : ℕ). Allows (λ (s : TableState (Unit {0}) View). IsKept s.words s.views) slots id me place (λ n. (n + k) % 2 ^ 64)
    (λ word after. CountTells step t me word after)) (sym e)
    (count_allowed step t slots id place me at_place can)

-- a title's count word is one of the table's words
pub place_inside : (region table : TableId) (t : Title) (place : ℕ) → region ≡ table → IsWellFormed (byte_word_count region) t →
    place ≡ count_place t → place < table.words
place_inside region table t place same well e =
    let a = well.start_aligned in let b = well.len_aligned in let c = well.long in let d = well.inside in
    let f : region.words ≡ table.words = ap (λ (z : TableId). z.words) same in
    omega arith
