-- What a look waits with, when others step and when it is made.
use Rattle.std.proofs.Common.{◌≡◌, ℕ, ◌<◌, ◌≤◌, List, [], ◌∷◌, ◌++◌, Some, length, refl, sym, ◌∙◌, ap, subst, arith, inl, inr, eqb}
use Rattle.std.specs.List.{sum_by}
use Rattle.std.proofs.lemmas.List.Sums.{sum_by-cons, sum_by_push}
use Rattle.std.proofs.lemmas.Bool.Decides.{eqb_tells}
use Rattle.pa_slot.specs.declared.title.Title.{Title}
use Rattle.pa_slot.specs.declared.word.Step.{Step}
use Rattle.pa_slot.specs.declared.word.Step.TheVariants.{Issue, Copy, Reset, Free, Write}
use Rattle.pa_slot.specs.Count.{CanStep, stepped, number_of, held_of}
use Rattle.pa_slot.specs.Titles.{count_word}
use Rattle.pa_slot.specs.Holdings.{one}
use Rattle.pa_slot.proofs.Arith.{stepped_is}
use Rattle.pa_slot.proofs.Same.{title_tells, title_self}
use Rattle.pa_region.specs.declared.view.Entry.{Entry}
use Rattle.pa_region.specs.declared.view.Entry.TheVariants.{Looked}
use Rattle.pa_region.specs.declared.view.Stake.{Stake}
use Rattle.pa_region.specs.declared.view.View.{View}
use Rattle.pa_region.specs.Views.{counted_at, logged_of, least_stake, HasTitle}
use Rattle.pa_region.specs.History.{Done, content_by, content_of}
use Rattle.pa_region.specs.Contents.{content_at_number}
use Rattle.pa_region.specs.Pairs.{last_entry, log_among, least_log}
use Rattle.pa_region.specs.Moves.{changed, noted}
use Rattle.pa_region.specs.Waiting.{Waits}
use Rattle.pa_region.proofs.Entering.{with_entry_last, least_there, least_noted}
use Rattle.pa_region.proofs.LogPart.{history_by}
use Rattle.pa_region.proofs.AtNumber.{content_within, content_last}
use Rattle.pa_region.proofs.PairSums.{last_more}

-- the log of a number after an entry in the first stake of that number
pub log_changed : (k : ℕ) (e : Entry) (ss : List Stake) → 0 < sum_by (λ (s : Stake). one (eqb s.number k)) ss →
    log_among k (changed (λ (s : Stake). eqb s.number k) (with_entry_last e) ss) ≡ log_among k ss ++ e ∷ []
log_changed k e [] there = absurd (omega arith)
log_changed k e (s ∷ ss) there = elim (eqb_tells s.number k) [
  | inl y ↦ rw (y.0, y.0) refl
  | inr n ↦
      let c = sum_by-cons (λ (x : Stake). one (eqb x.number k)) s ss in
      let z : one (eqb s.number k) ≡ 0 = ap one n.0 in
      rw (n.0, n.0) (log_changed k e ss (omega arith))
]

-- the least log has the entry at its end
pub least_log_noted : (e : Entry) (ss : List Stake) → least_stake ss < 16 → least_log (noted e ss) ≡ least_log ss ++ e ∷ []
least_log_noted e ss has =
    ap (λ k. log_among k (noted e ss)) (least_noted e ss) ∙ log_changed (least_stake ss) e ss (least_there ss has)

-- an entry that is noted is the last one of the least log
pub last_noted : (e : Entry) (ss : List Stake) → least_stake ss < 16 → last_entry (least_log (noted e ss)) ≡ Some e
last_noted e ss has = ap last_entry (least_log_noted e ss has) ∙ last_more (least_log ss) e

-- the log of a number is among all of a view
log_within : (k : ℕ) (weight : Entry → ℕ) (ss : List Stake) →
    sum_by weight (log_among k ss) ≤ sum_by (λ (s : Stake). sum_by weight s.log) ss
log_within k weight [] = omega arith
log_within k weight (s ∷ ss) =
    let c = sum_by-cons (λ (x : Stake). sum_by weight x.log) s ss in
    let again = log_within k weight ss in
    elim (eqb_tells s.number k) [ inl y ↦ rw y.0 (omega arith) | inr n ↦ rw n.0 (omega arith) ]

-- what is weighed over the least log is within all logs of the view
pub least_log_within : (v : View) (weight : Entry → ℕ) → sum_by weight (least_log v.stakes) ≤ logged_of v weight
least_log_within v weight = log_within (least_stake v.stakes) weight v.stakes

-- the last entry counts among those of its log
pub last_counts : (weight : Entry → ℕ) (log : List Entry) (e : Entry) → last_entry log ≡ Some e → weight e ≤ sum_by weight log
last_counts weight [] e is = absurd (cc)
last_counts weight (a ∷ []) e is =
    let same : weight a ≡ weight e = ap weight (some_is a e is) in
    omega (arith, sum_by-cons weight a [])
  where
    some_is : (a b : Entry) → Some a ≡ Some b → a ≡ b
    some_is a b same = cc
last_counts weight (a ∷ b ∷ log) e is = let again = last_counts weight (b ∷ log) e is in omega (arith, sum_by-cons weight a (b ∷ log))

-- a look goes on waiting if its view has title and logs as before, and the word has the same bit
pub waits_same : (history : Title → List Done) (words after : List ℕ) (v w : View) (t : Title) (found : ℕ) → Waits history words v t found →
    HasTitle w t → w.stakes ≡ v.stakes → held_of (count_word after t) ≡ held_of (count_word words t) → Waits history after w t found
waits_same history words after v w t found waits has stakes same = record {
  has = has;
  content = waits.content;
  none_later = λ n later. rw stakes (waits.none_later n later);
  bit = λ low. same ∙ waits.bit low;
}

-- a step that is no Issue and no Write leaves the content
pub content_other : (step : Step) (value before : ℕ) → (step ≡ Issue → ⊥) → (step ≡ Write → ⊥) → content_by step value before ≡ before
content_other Issue value before no_issue no_write = absurd (no_issue refl)
content_other Copy value before no_issue no_write = refl
content_other Reset value before no_issue no_write = refl
content_other Free value before no_issue no_write = refl
content_other Write value before no_issue no_write = absurd (no_write refl)

-- a step that is no Issue leaves the bit 0
pub bit_other : (step : Step) (word : ℕ) → CanStep step word → (step ≡ Issue → ⊥) → held_of word ≡ 0 → held_of (stepped step word) ≡ 0
bit_other Issue word can no_issue low = absurd (no_issue refl)
bit_other Copy word can no_issue low = let s = stepped_is Copy word can in s.1 ∙ low
bit_other Reset word can no_issue low = let s = stepped_is Reset word can in s.1 ∙ low
bit_other Free word can no_issue low = (stepped_is Free word can).1
bit_other Write word can no_issue low = let s = stepped_is Write word can in s.1 ∙ low

-- a look goes on waiting over a counted step of another view: on its title that is no Issue and no Write
pub waits_counted : (t : Title) (step : Step) (value : ℕ) (history : Title → List Done) (words after : List ℕ) (v : View) (u : Title)
    (found : ℕ) →
    Waits history words v u found → number_of found ≤ length (history u) → CanStep step (count_word words t) →
    (t ≡ u → (step ≡ Issue → ⊥) × (step ≡ Write → ⊥)) → (count_word after t ≡ stepped step (count_word words t)) →
    ((t ≡ u → ⊥) → count_word after u ≡ count_word words u) → Waits (history_by step t value history) after v u found
waits_counted t step value history words after v u found waits within can shared here others = elim (title_tells t u) [
  | inl y ↦ subst (λ (x : Title). Waits history words v x found → number_of found ≤ length (history x) →
      Waits (history_by step t value history) after v x found) y.1
      (λ old inside. record {
        has = old.has;
        content = rw (title_self t) (content_other step value (content_of (history t)) (shared y.1).0 (shared y.1).1
            ∙ (old.content ∙ sym (content_within (number_of found) (record { step = step; value = value }) (history t) inside)));
        none_later = old.none_later;
        bit = λ low. rw here (bit_other step (count_word words t) can (shared y.1).0 (old.bit low));
      }) waits within
  | inr n ↦ record {
    has = waits.has;
    content = rw n.0 waits.content;
    none_later = waits.none_later;
    bit = λ low. rw (others n.1) (waits.bit low);
  }
]

-- a look that was made now waits
pub waits_now : (history : Title → List Done) (words : List ℕ) (v w : View) (t : Title) (word : ℕ) → HasTitle w t →
    least_stake v.stakes < 16 →
    w.stakes ≡ noted (Looked t word) v.stakes → number_of word ≡ length (history t) → word ≡ count_word words t →
    ((n : ℕ) → length (history t) ≤ n → sum_by (counted_at t n) (least_log v.stakes) ≡ 0) → Waits history words w t word
waits_now history words v w t word has stake stakes at_end is none = record {
  has = has;
  content = sym (ap (λ k. content_at_number k (history t)) at_end ∙ content_last (history t));
  none_later = λ n later.
      let p = sum_by_push (counted_at t n) (least_log v.stakes) (Looked t word) in
      let z = none n (omega arith) in
      rw (stakes, least_log_noted (Looked t word) v.stakes stake) (omega arith);
  bit = λ low. ap held_of (sym is) ∙ low;
}
