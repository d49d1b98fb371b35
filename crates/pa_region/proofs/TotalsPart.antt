-- The rule's part on the totals words, when a log gets an entry, when none does, and when views are regrouped.
use Rattle.std.proofs.Common.{◌≡◌, ℕ, ◌+◌, ◌-◌, ◌*◌, ◌<◌, ◌≤◌, Bool, true, false, List, length, set, refl, sym, ◌∙◌, arith, inl, inr}
use Rattle.std.specs.Prelude.{slice_index, if◌then◌else◌}
use Rattle.std.specs.List.{sum_by}
use Rattle.std.proofs.lemmas.List.{length-set, get_or-set_other}
use Rattle.std.proofs.lemmas.Bool.Decides.{eqb_tells}
use mathlib.Core.Option.{some}
use lib.ListN.{get_elem?}
use Rattle.pa_slot.specs.declared.title.Title.{Title}
use Rattle.pa_slot.specs.declared.word.Step.{Step}
use Rattle.pa_slot.specs.Titles.{IsWellFormed}
use Rattle.pa_region.specs.declared.view.Entry.{Entry}
use Rattle.pa_region.specs.declared.view.Entry.TheVariants.{Counted}
use Rattle.pa_region.specs.declared.view.Stake.{Stake}
use Rattle.pa_region.specs.declared.view.View.{View}
use Rattle.pa_region.specs.Views.{byte_words, least_stake, logged_in, counted, HasStake}
use Rattle.pa_region.specs.Moves.{noted}
use Rattle.pa_region.specs.Pairs.{amount_by, logged_by}
use Rattle.pa_region.specs.Totals.{is_of_kind, owes_as, added_as, added_to, total_place, Totals}
use Rattle.pa_region.proofs.PairSums.{logged_by_set, by_same}
use Rattle.pa_region.proofs.Bytes.{bytes_length}

-- the totals words are as before, and as many words are there
pub record TotalsStay (words after : List ℕ) : Type 0 where
  pub long : length after ≡ length words
  pub same : (k : ℕ) → slice_index after (total_place after k) ≡ slice_index words (total_place words k)

pub words_stay : (words : List ℕ) → TotalsStay words words
words_stay words = record { long = refl; same = λ k. refl }

-- a store to a word of the bytes leaves the totals words
pub bytes_stay : (words : List ℕ) (p x : ℕ) → p < length words - 16 → TotalsStay words (set words p x)
bytes_stay words p x below = record {
  long = length-set words p x;
  same = λ k. rw (length-set words p x) (get_or-set_other words p (total_place words k) x 0 (λ e. omega arith));
}

-- a log gets an entry that adds nothing to a totals word, and that owes only as a counted step of at most 134,217,728 bytes
pub totals_other : (words after : List ℕ) (views : List View) (i : ℕ) (v w : View) (e : Entry) → get_elem? views i ≡ some v →
    w.stakes ≡ noted e v.stakes → HasStake v →
    Totals words (logged_in views) (logged_by views) → TotalsStay words after →
    ((weight : Entry → ℕ) → logged_in (set views i w) weight ≡ logged_in views weight + weight e) →
    ((k : ℕ) → added_to k e ≡ 0) → ((q : ℕ) → added_as q e ≡ 0) → ((q : ℕ) → owes_as q e ≤ 134217728 * counted e) →
    Totals after (logged_in (set views i w)) (logged_by (set views i w))
totals_other words after views i v w e at_i stakes has t stay more to kind owes = record {
  wide = let l = stay.long in let w = t.wide in omega arith;
  small = let l = stay.long in let s = t.small in omega arith;
  sums = λ k small. let s = t.sums k small in let m = more (added_to k) in let z = to k in let same = stay.same k in omega arith;
  covered = λ r q.
      let a = logged_by_set views i v w e at_i stakes has r (added_as q) in
      let b = logged_by_set views i v w e at_i stakes has r (owes_as q) in
      let c = t.covered r q in
      let z = kind q in
      elim (eqb_tells (least_stake v.stakes) r) [
        | inl y ↦ let d = rw y.0 at a in let f = rw y.0 at b in omega arith
        | inr n ↦ let d = rw n.0 at a in let f = rw n.0 at b in omega arith
      ];
  bounded = λ q. let m = more (owes_as q) in let n = more counted in let b = t.bounded q in let o = owes q in omega arith;
}

-- no log gets an entry
pub totals_stay : (words after : List ℕ) (views : List View) (i : ℕ) (v w : View) → get_elem? views i ≡ some v → w.stakes ≡ v.stakes →
    Totals words (logged_in views) (logged_by views) → TotalsStay words after →
    Totals after (logged_in (set views i w)) (logged_by (set views i w))
totals_stay words after views i v w at_i stakes t stay = record {
  wide = let l = stay.long in let w = t.wide in omega arith;
  small = let l = stay.long in let s = t.small in omega arith;
  sums = λ k small. let s = t.sums k small in let m = same (added_to k) in let e = stay.same k in omega arith;
  covered = λ r q.
      let a = by_same (amount_by r (sum_by (added_as q))) views i v w at_i stakes in
      let b = by_same (amount_by r (sum_by (owes_as q))) views i v w at_i stakes in
      let c = t.covered r q in
      omega arith;
  bounded = λ q. let m = same (owes_as q) in let n = same counted in let b = t.bounded q in omega arith;
}
  where
    same : (weight : Entry → ℕ) → logged_in (set views i w) weight ≡ logged_in views weight
    same weight = by_same (λ (s : Stake). sum_by weight s.log) views i v w at_i stakes

-- views are regrouped
pub totals_same : (words : List ℕ) (before after : List View) → ((weight : Entry → ℕ) → logged_in after weight ≡ logged_in before weight) →
    ((r : ℕ) (weight : Entry → ℕ) → logged_by after r weight ≡ logged_by before r weight) →
    Totals words (logged_in before) (logged_by before) →
    Totals words (logged_in after) (logged_by after)
totals_same words before after logs logs_by t = record {
  wide = t.wide;
  small = t.small;
  sums = λ k small. t.sums k small ∙ sym (logs (added_to k));
  covered = λ r q. let a = logs_by r (added_as q) in let b = logs_by r (owes_as q) in let c = t.covered r q in omega arith;
  bounded = λ q. let a = logs (owes_as q) in let b = logs counted in let c = t.bounded q in omega arith;
}

-- a counted step on a title of the region owes at most the region's bytes
owes_at_most : (b : Bool) (n : ℕ) → n ≤ 134217728 → (if b then n else 0) ≤ 134217728
owes_at_most true n h = h
owes_at_most false n h = omega arith

pub owes_few : (words : List ℕ) (t : Title) (step : Step) (found value : ℕ) → IsWellFormed (length (byte_words words)) t →
    length words ≤ 16777232 → (q : ℕ) →
    owes_as q (Counted t step found value) ≤ 134217728 * counted (Counted t step found value)
owes_few words t step found value well small q =
    let l = bytes_length words in
    let a = well.inside in
    owes_at_most (is_of_kind q step found) t.len (omega arith)
