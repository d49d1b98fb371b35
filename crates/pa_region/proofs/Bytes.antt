-- The words of the bytes, and the titles that are held.
use Rattle.std.proofs.Common.{◌≡◌, ℕ, ◌-◌, ◌<◌, List, length, set, get_or, sym, arith}
use mathlib.Core.Option.{some}
use lib.ListN.{get_elem?}
use Rattle.std.proofs.lemmas.List.{length-set, get_or-take, length-take-le}
use Rattle.std.proofs.Math.Seq.{take-set-lt}
use Rattle.pa_slot.specs.declared.title.Title.{Title}
use Rattle.pa_slot.specs.Titles.{count_place}
use Rattle.pa_slot.specs.Holdings.{FreeTitle, OwnOf, RefOf, IsTitleHeld}
use Rattle.pa_machine.specs.Events.{total_of}
use Rattle.pa_region.specs.declared.view.View.{View}
use Rattle.pa_region.specs.Views.{held_of_view, byte_words, shown}
use Rattle.pa_region.specs.Rule.{IsKept}
use Rattle.pa_region.proofs.Pieces.{held_within}

-- the words of the bytes after one of them is written
pub bytes_set : (words : List ℕ) (p x : ℕ) → p < length words - 16 → byte_words (set words p x) ≡ set (byte_words words) p x
bytes_set words p x below = rw (length-set words p x) (take-set-lt (length words - 16) words p x below)

-- how many words the bytes have
pub bytes_length : (words : List ℕ) → length (byte_words words) ≡ length words - 16
bytes_length words = length-take-le (length words - 16) words (omega arith)

-- a word of the bytes is a word of the table
pub bytes_word : (words : List ℕ) (p : ℕ) → p < length words - 16 → get_or words p 0 ≡ get_or (byte_words words) p 0
bytes_word words p below = sym (get_or-take (length words - 16) words p 0 below)

-- what one view holds, all views hold
pub held_in_all : (words : List ℕ) (views : List View) (i : ℕ) (v : View) (t : Title) → get_elem? views i ≡ some v →
    IsTitleHeld (held_of_view v) t → IsTitleHeld (total_of (shown words views)) t
held_in_all words views i v t at_i h =
    let a = held_within words views i v at_i (FreeTitle t) in
    let b = held_within words views i v at_i (OwnOf t) in
    let c = held_within words views i v at_i (RefOf t) in
    omega arith

-- a held title's count word is a word of the bytes
pub place_below : (words : List ℕ) (views : List View) (t : Title) → IsKept words views → IsTitleHeld (total_of (shown words views)) t →
    count_place t < length words - 16
place_below words views t k held =
    let w = k.holders.good.divided.well t held in
    let l = bytes_length words in
    let a = w.start_aligned in let b = w.len_aligned in let c = w.long in let d = w.inside in
    omega arith
