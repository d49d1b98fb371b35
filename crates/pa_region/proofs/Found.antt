-- What the word of a title implies for a view that has the title, and that its step is enabled there.
use Rattle.std.proofs.Common.{◌≡◌, ℕ, ◌<◌, List, length, sym, ap, arith, inl, inr}
use mathlib.Core.Option.{some}
use lib.ListN.{get_elem?}
use Rattle.pa_slot.specs.declared.title.Title.{Title}
use Rattle.pa_slot.specs.declared.word.Step.{Step}
use Rattle.pa_slot.specs.declared.word.Step.TheVariants.{Issue, Copy, Reset, Free, Write}
use Rattle.pa_slot.specs.Count.{CanStep, number_of}
use Rattle.pa_slot.specs.Titles.{count_place, count_word}
use Rattle.pa_slot.specs.Holdings.{FreeTitle, OwnOf, RefOf, IsTitleHeld}
use Rattle.pa_machine.specs.Events.{total_of}
use Rattle.pa_slot.proofs.Arith.{held_small}
use Rattle.pa_machine.proofs.Parts.{free_or, word_covered}
use Rattle.pa_region.specs.declared.view.View.{View}
use Rattle.pa_region.specs.Views.{held_of_view, byte_words, shown, idle_of, logged_in, unseen_in}
use Rattle.pa_region.specs.History.{reached}
use Rattle.pa_region.specs.Rule.{IsKept}
use Rattle.pa_region.specs.Moves.{HasHandle, CanCount, IsFound}
use Rattle.pa_region.proofs.Adding.{sum_part}
use Rattle.pa_region.proofs.Pieces.{HasPiece, handle_piece, held_within, frees_have, owns_have, refs_have, idle_owns}
use Rattle.pa_region.proofs.LogPart.{reached_number}
use Rattle.pa_region.proofs.SeenPart.{seen_within}
use Rattle.pa_region.proofs.Bytes.{held_in_all}

-- the handle that a step needs is a handle of the title
pub piece_held : (step : Step) (t : Title) (v : View) → HasPiece step t v → IsTitleHeld (held_of_view v) t
piece_held Issue t v has = let f = frees_have v t in omega arith
piece_held Copy t v has = let o = owns_have v t in let r = refs_have v t in omega arith
piece_held Reset t v has = let r = refs_have v t in omega arith
piece_held Free t v has = let o = owns_have v t in omega arith
piece_held Write t v has = let o = idle_owns v t has in omega arith

pub handle_held : (step : Step) (t : Title) (v : View) → HasHandle step t v → IsTitleHeld (held_of_view v) t
handle_held step t v has = piece_held step t v (handle_piece step t v has)

-- the step is enabled at the title's word, with room for its number and its count
enabled : (step : Step) (t : Title) (words : List ℕ) (views : List View) (i : ℕ) (v : View) → IsKept words views →
    get_elem? views i ≡ some v →
    IsTitleHeld (total_of (shown words views)) t → HasPiece step t v → number_of (count_word (byte_words words) t) < 65536 →
    CanStep step (count_word (byte_words words) t)
enabled Issue t words views i v k at_i held has small =
    let word = k.holders.good.counted t held in
    let mine = held_within words views i v at_i (FreeTitle t) in
    let f = frees_have v t in
    elim (free_or (count_word (byte_words words) t)) [
      | inl y ↦ ((y.0, y.1), omega arith, tt)
      | inr n ↦ let z = word.taken n in absurd (omega arith)
    ]
enabled Copy t words views i v k at_i held has small =
    let word = k.holders.good.counted t held in
    let few = k.holders.few_refs t held in
    let o = held_within words views i v at_i (OwnOf t) in
    let r = held_within words views i v at_i (RefOf t) in
    let p = word.owns in let q = word.refs in
    let on = owns_have v t in let rn = refs_have v t in
    (omega arith, omega arith, omega arith)
enabled Reset t words views i v k at_i held has small =
    let word = k.holders.good.counted t held in
    let r = held_within words views i v at_i (RefOf t) in
    let q = word.refs in
    let rn = refs_have v t in
    (omega arith, omega arith, tt)
enabled Free t words views i v k at_i held has small =
    let word = k.holders.good.counted t held in
    let o = held_within words views i v at_i (OwnOf t) in
    let q = word.owns in
    let s = held_small (count_word (byte_words words) t) in
    let on = owns_have v t in
    (omega arith, omega arith, tt)
enabled Write t words views i v k at_i held has small =
    let word = k.holders.good.counted t held in
    let own = idle_owns v t has in
    let o = held_within words views i v at_i (OwnOf t) in
    let q = word.owns in
    let s = held_small (count_word (byte_words words) t) in
    let p = sum_part (λ u. idle_of u t) views i v at_i in
    let z = k.holders.known t (omega arith) in
    ((omega arith, z), omega arith, tt)

-- a counted step that a view can make is enabled at the word that it finds
pub count_can : (step : Step) (t : Title) (words : List ℕ) (views : List View) (i : ℕ) (v : View) → IsKept words views →
    get_elem? views i ≡ some v →
    CanCount step t v → CanStep step (count_word (byte_words words) t)
count_can step t words views i v k at_i can =
    let held = held_in_all words views i v t at_i (handle_held step t v can.0) in
    let few = k.holders.few t held in
    let b = sum_part (λ (u : View). u.budget) views i v at_i in
    let c = can.2 in
    enabled step t words views i v k at_i held (handle_piece step t v can.0) (omega arith)

-- what the title's word implies for a view that holds the title
pub count_found : (t : Title) (words : List ℕ) (views : List View) (i : ℕ) (v : View) → IsKept words views → get_elem? views i ≡ some v →
    IsTitleHeld (held_of_view v) t → IsFound t (count_word (byte_words words) t) v
count_found t words views i v k at_i mine =
    let held = held_in_all words views i v t at_i mine in
    let word = k.holders.good.counted t held in
    let owns = word.owns in
    let refs = word.refs in
    let f = held_within words views i v at_i (FreeTitle t) in
    let o = held_within words views i v at_i (OwnOf t) in
    let r = held_within words views i v at_i (RefOf t) in
    let few = k.holders.few t held in
    let b = sum_part (λ (u : View). u.budget) views i v at_i in
    let fn = frees_have v t in let on = owns_have v t in let rn = refs_have v t in
    record {
      not_older =
          let s = seen_within views i v (logged_in views) (unseen_in views) at_i k.seen t in
          let l = (k.logs.chain t).all in
          let n = reached_number (k.history t) (k.logs.chain t).legal in
          let e : number_of (count_word (byte_words words) t) ≡ number_of (reached (k.history t)) = ap number_of (k.logs.last t held) in
          omega arith;
      owns = omega arith;
      refs = omega arith;
      frees = elim (free_or (count_word (byte_words words) t)) [
        | inl y ↦ let z = word.free y in omega arith
        | inr n ↦ let z = word.taken n in omega arith
      ];
      taken = λ n. let z = word.taken n in omega arith;
      known = λ free.
          let w = k.holders.good.divided.well t held in
          sym (k.values.known i (count_place t) v at_i
          (inr (inl (t, free, word_covered (length (byte_words words)) t (count_place t) w (omega arith, omega arith)))));
      idle = λ h. let p = sum_part (λ u. idle_of u t) views i v at_i in k.holders.known t (omega arith);
      few = omega arith;
      few_refs = k.holders.few_refs t held;
    }
