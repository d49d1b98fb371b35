-- What the rule says of one title.
use Rattle.std.specs.List.{sum_by}
use Rattle.pa_slot.specs.Holdings.{OwnOf}
use Rattle.pa_slot.specs.Titles.{count_word}
use Rattle.pa_slot.proofs.Arith.{held_small}
use Rattle.pa_region.specs.Views.{byte_words, held_of_view, own_of}
use Rattle.pa_region.proofs.Adding.{sum_same}
use Rattle.pa_region.proofs.Pieces.{total_sum, owns_have}
use Rattle.std.proofs.Common.{◌≡◌, ℕ, ◌<◌, ◌≤◌, List, [], ◌∷◌, length, refl, sym, ◌∙◌, ap, arith, inl, inr}
use Rattle.pa_slot.specs.declared.title.Title.{Title}
use Rattle.pa_slot.specs.Count.{number_of}
use Rattle.pa_slot.specs.Holdings.{IsTitleHeld}
use Rattle.pa_machine.specs.Events.{total_of}
use Rattle.pa_region.specs.declared.view.Entry.{Entry}
use Rattle.pa_region.specs.declared.view.View.{View}
use Rattle.pa_region.specs.Views.{shown, logged_in, counted_on}
use Rattle.pa_region.specs.History.{Done, reached, IsChained}
use Rattle.pa_region.specs.Rule.{IsKept}
use Rattle.pa_region.proofs.Adding.{one_lt}
use Rattle.pa_region.proofs.LogPart.{reached_number}
use Rattle.pa_region.specs.Views.{counted_at}
use Rattle.pa_region.specs.Says.{word_shown}

-- the number of a held title's word is the length of its history
pub number_length : (words : List ℕ) (views : List View) (t : Title) (k : IsKept words views) →
    IsTitleHeld (total_of (shown words views)) t →
    number_of (word_shown words t) ≡ length (k.history t)
number_length words views t k held = ap number_of (k.logs.last t held) ∙ reached_number (k.history t) (k.logs.chain t).legal

-- each number below the word's was found once, and no other
pub found_once : (words : List ℕ) (views : List View) (t : Title) (k : IsKept words views) → IsTitleHeld (total_of (shown words views)) t →
    ((n : ℕ) → n < number_of (word_shown words t) → logged_in views (counted_at t n) ≡ 1) ×
    ((n : ℕ) → number_of (word_shown words t) ≤ n → logged_in views (counted_at t n) ≡ 0)
found_once words views t k held =
    let e = number_length words views t k held in (
      (λ n below.
          let c = (k.logs.chain t).numbers n in
          elim (one_lt n (length (k.history t))) [ inl y ↦ let z = y.0 in omega arith | inr m ↦ let z = m.1 in absurd (omega arith) ]),
      (λ n past.
          let c = (k.logs.chain t).numbers n in
          elim (one_lt n (length (k.history t))) [ inl y ↦ let z = y.1 in absurd (omega arith) | inr m ↦ let z = m.0 in omega arith ]),
    )

-- the word of a title on which no step was made
pub unstepped : (logs : (Entry → ℕ) → ℕ) (t : Title) (history : List Done) → IsChained logs t history → logs (counted_on t) ≡ 0 →
    reached history ≡ 0
unstepped logs t history chain none = go history (sym chain.all ∙ none)
  where
    go : (hs : List Done) → length hs ≡ 0 → reached hs ≡ 0
    go [] e = refl
    go (d ∷ older) e = absurd (omega arith)

-- a title that no log names has made no step
pub unnamed_new : (words : List ℕ) (views : List View) (t : Title) (k : IsKept words views) → IsTitleHeld (total_of (shown words views)) t →
    logged_in views (counted_on t) ≡ 0 → word_shown words t ≡ 0
unnamed_new words views t k held none = k.logs.last t held ∙ unstepped (logged_in views) t (k.history t) (k.logs.chain t) none

-- a held title has at most one Own
pub few_owns : (words : List ℕ) (views : List View) (t : Title) → IsKept words views → IsTitleHeld (total_of (shown words views)) t →
    sum_by (λ u. own_of u t) views ≤ 1
few_owns words views t k held =
    let a = total_sum words views (OwnOf t) in
    let s = sum_same (λ u. held_of_view u (OwnOf t)) (λ u. own_of u t) views (λ u. owns_have u t) in
    let p = (k.holders.good.counted t held).owns in
    let small = held_small (count_word (byte_words words) t) in
    omega arith
