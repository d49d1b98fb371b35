-- The table that a region is opened with meets the rule.
use Rattle.std.proofs.Common.{◌≡◌, ℕ, zero, suc, ◌+◌, ◌-◌, ◌*◌, ◌<◌, ◌≤◌, true, List, [], ◌∷◌, length, take, replicate, refl, sym, ◌∙◌, ap, subst, arith, inl, inr}
use Rattle.std.specs.Prelude.{slice_index}
use Rattle.std.specs.List.{sum_by}
use Rattle.std.proofs.lemmas.Bool.{cases_lt}
use Rattle.std.proofs.lemmas.List.{length-take-le, length-replicate}
use mathlib.Core.Option.{some, some-injective, some-ne-none}
use lib.ListN.{get_elem?}
use Rattle.atomic_table.specs.Seated.{TableId}
use Rattle.atomic_table.specs.Table.{Me}
use Rattle.pa_slot.specs.declared.title.Title.{Title}
use Rattle.pa_slot.specs.declared.title.OwnState.TheVariants.{Clean}
use Rattle.pa_slot.specs.Holdings.{Thing, RawByte, FreeTitle, OwnOf, RefOf, IsTitleHeld}
use Rattle.pa_machine.specs.Events.{total_of}
use Rattle.pa_machine.proofs.Totals.{tally_of}
use Rattle.pa_machine.proofs.Cutting.{covered_raw, uncovered_raw}
use Rattle.pa_region.specs.declared.view.View.{View}
use Rattle.pa_region.specs.declared.view.Entry.{Entry}
use Rattle.pa_region.specs.declared.view.Stake.{Stake}
use Rattle.pa_region.specs.Views.{held_of_view, byte_words, shown, logged_in}
use Rattle.pa_region.specs.Pairs.{amount_by, logged_by}
use Rattle.pa_region.specs.Totals.{owes_as, added_as, added_to, total_place}
use Rattle.pa_region.specs.Rule.{IsKept}
use Rattle.pa_region.specs.Shares.{IsSeatSound, byte_word_count}
use Rattle.pa_region.specs.Aware.{IsAware}
use Rattle.pa_region.proofs.Awareness.{aware_of}
use Rattle.pa_region.specs.Marks.{AreStakes}
use Rattle.pa_region.specs.Start.{blank, first_view}
use Rattle.pa_region.proofs.Adding.{one_lt}
use Rattle.pa_region.proofs.ReadsFirst.{first_all, no_amount, reads_first}
use Rattle.pa_region.proofs.SeatStakes.{first_stakes}
use Rattle.pa_region.proofs.FirstLists.{blank_at, stake_count, first_lists, first_order}

-- the first view has each byte of the region as raw, once
first_raw : (words budget b : ℕ) → b < 8 * words → held_of_view (first_view words budget) (RawByte b) ≡ 1
first_raw words budget b below = covered_raw 0 (8 * words) b (omega arith) (omega arith)

-- the first view has no byte raw past the region's
first_none : (words budget b : ℕ) → 8 * words ≤ b → held_of_view (first_view words budget) (RawByte b) ≡ 0
first_none words budget b past = uncovered_raw 0 (8 * words) b (inr (omega arith))

-- all words are 0
abbrev zeros : ℕ → List ℕ
zeros m = replicate m 0

-- each of them is 0, and so is what is read past their end
zero_at : (n m i : ℕ) → slice_index (take n (zeros m)) i ≡ 0
zero_at zero m i = refl
zero_at (suc n) zero i = refl
zero_at (suc n) (suc m) zero = refl
zero_at (suc n) (suc m) (suc i) = zero_at n m i

-- each of the zeros is 0
zero_of : (m i : ℕ) → slice_index (zeros m) i ≡ 0
zero_of zero i = refl
zero_of (suc m) zero = refl
zero_of (suc m) (suc i) = zero_of m i

-- as many as the region has
pub blank_long : (n : ℕ) → length (blank n) ≡ n
unfolding blank
blank_long zero = refl
blank_long (suc n) = ap suc (blank_long n)

-- the rule holds at the start, if the words are 0
pub opens : (words budget : ℕ) → words ≤ 16777216 → budget ≤ 65536 → IsKept (replicate (words + 16) 0) (first_view words budget ∷ [])
opens words budget enough few = record {
  history = λ t. [];
  list = λ k. [];
  all = [];
  steps = [];
  holders = record {
    good = record {
      divided = record {
        bytes = λ b below. inl (total_is (RawByte b) ∙ first_raw words budget b (rw long at below), (λ t held covers. nothing t held));
        outside = λ b past. total_is (RawByte b) ∙ first_none words budget b (rw long at past);
        well = λ t held. absurd (nothing t held);
        apart = λ t u b held other covers inside. absurd (nothing t held);
      };
      counted = λ t held. absurd (nothing t held);
      poison_kept = λ t held. absurd (nothing t held);
      content_kept = λ t held. absurd (nothing t held);
      seal_kept = λ t held. absurd (nothing t held);
    };
    known = λ t some_idle. absurd (omega arith);
    affords = omega arith;
    few = λ t held. absurd (nothing t held);
    few_refs = λ t held. absurd (nothing t held);
  };
  values = record {
    long = λ i v at_i. subst (λ (w : View). length w.words ≡ length (byte_words all_words)) (only i v at_i) (blank_long words ∙ sym long);
    known = λ i q v at_i knows. subst (λ (w : View). slice_index w.words q ≡ slice_index (byte_words all_words) q) (only i v at_i)
        (blank_at words q ∙ sym (zero_at (length all_words - 16) (words + 16) q));
  };
  reservations = record {
    floors = λ t b some_name covers. absurd (omega arith);
    later = λ t u b some_name held ne covers inside. absurd (omega arith);
    gone = λ t some_name held. absurd (omega arith);
  };
  named = record {
    well = λ t some_name. absurd (omega arith);
    one_name = λ t u some_name other start born. absurd (omega arith);
    held = λ t some_name none. absurd (omega arith);
  };
  logs = record {
    chain = λ t. record {
      legal = tt;
      steps = tt;
      numbers = λ k. elim (one_lt k 0) [ inl y ↦ let z = y.1 in absurd (omega arith) | inr n ↦ sym n.0 ];
      all = refl;
      looks = λ word some_look. absurd (omega arith);
    };
    last = λ t held. absurd (nothing t held);
    each_stake = λ k. elim (stake_count 0 16 k) [
      | inl y ↦ elim (one_lt k 16) [
        | inl z ↦ let a = y.2 in let b = z.0 in omega arith
        | inr n ↦ let a = y.1 in let b = n.1 in
            absurd (omega arith)
      ]
      | inr m ↦ elim (one_lt k 16) [
        | inl z ↦ let a = z.1 in absurd (m.0 (omega arith, omega arith))
        | inr n ↦ let a = m.1 in let b = n.0 in
            omega arith
      ]
    ];
  };
  content = record {
    clean = λ t has. let p = (tally_of (shown all_words views).holdings).part t Clean in let z = total_is (OwnOf t) in absurd (omega arith);
    beyond = λ t j many has. let z = total_is (RefOf t) in absurd (omega arith);
  };
  reads = reads_first words budget (byte_words all_words);
  seen = record {
    numbers = λ t. refl;
    own_logs = refl;
  };
  lists = first_lists words budget;
  undone = λ t. omega arith;
  totals = record {
    wide = let l = all_long in omega arith;
    small = let l = all_long in omega arith;
    sums = λ k small. zero_of (words + 16) (total_place all_words k) ∙ sym (none (added_to k));
    covered = λ r q. let a = none_by r (added_as q) in omega arith;
    bounded = λ q. let a = none (owes_as q) in omega arith;
  };
  ordered = first_order words budget;
  filled = record {
    logged = refl;
    placed = tt;
    owned = λ t state has. let p = (tally_of (shown all_words views).holdings).part t state in let z = total_is (OwnOf t) in
        absurd (omega arith);
    left = λ t none. record { none = refl; poisoned = λ some_ref. let z = total_is (RefOf t) in absurd (omega arith) };
    each_view = λ i v at_i. record { waits = λ t found is quiet. tt; near = λ t did some_own. tt };
  };
}
  where
    all_words : List ℕ
    all_words = replicate (words + 16) 0

    views : List View
    views = first_view words budget ∷ []

    all_long : length all_words ≡ words + 16
    all_long = length-replicate (words + 16) 0

    none : (weight : Entry → ℕ) → logged_in views weight ≡ 0
    none weight = first_all (λ (s : Stake). sum_by weight s.log) words budget (λ n. refl)

    none_by : (r : ℕ) (weight : Entry → ℕ) → logged_by views r weight ≡ 0
    none_by r weight = first_all (amount_by r (sum_by weight)) words budget (λ n. no_amount r n (sum_by weight) refl)

    long : length (byte_words all_words) ≡ words
    long = let a : length all_words ≡ words + 16 = length-replicate (words + 16) 0 in
        let b = length-take-le (length all_words - 16) all_words (omega arith) in
        omega arith

    total_is : (x : Thing) → total_of (shown all_words views) x ≡ held_of_view (first_view words budget) x
    total_is x = omega arith

    nothing : (t : Title) → IsTitleHeld (total_of (shown all_words views)) t → ⊥
    nothing t held =
        let f = total_is (FreeTitle t) in let o = total_is (OwnOf t) in let r = total_is (RefOf t) in
        omega arith

    only : (i : ℕ) (v : View) → get_elem? views i ≡ some v → first_view words budget ≡ v
    only zero v at_i = some-injective (first_view words budget) v at_i
    only (suc i) v at_i = absurd (some-ne-none v (sym at_i))

-- the first view is sound, and its seat has every stake
pub first_sound : (region : TableId) (words budget : ℕ) → byte_word_count region ≡ words → words ≤ 16777216 →
    IsSeatSound region (first_view words budget)
first_sound region words budget e small = record {
  small = rw e small;
  well = λ t has. absurd (omega arith);
  raw = λ b held. elim (cases_lt b (8 * words)) [ inl y ↦ rw e y | inr n ↦ let z = first_none words budget b n in absurd (omega arith) ];
  long = blank_long words ∙ sym e;
}

-- a new region keeps the rule, with the words as the code makes them
pub opens_with : (supers budget : ℕ) (words : List ℕ) → supers ≤ 64 → budget ≤ 65536 → words ≡ replicate (supers * 262144 + 16) 0 →
    IsKept words (first_view (supers * 262144) budget ∷ [])
opens_with supers budget words few enough z = rw z (opens (supers * 262144) budget (omega arith) enough)

-- what the first seat's type keeps
pub first_keeps : (supers budget : ℕ) (words : List ℕ) (table region : TableId) (me : Me (Unit {0}) View) → supers ≤ 64 → budget ≤ 65536 →
    words ≡ replicate (supers * 262144 + 16) 0 → table.words ≡ length words → region ≡ table →
    me ≡ (first_view (supers * 262144) budget, []) →
    (me.1 ≡ []) × IsSeatSound region me.0 × AreStakes (replicate 16 true) me.0 × IsAware me.0
first_keeps supers budget words table region me few enough z long same is_first =
    let count : length words ≡ supers * 262144 + 16 = ap (λ (ws : List ℕ). length ws) z ∙ length-replicate (supers * 262144 + 16) 0 in
    let n : region.words ≡ length words = ap (λ (x : TableId). x.words) same ∙ long in
    let view : me.0 ≡ first_view (supers * 262144) budget = ap (λ (m : Me (Unit {0}) View). m.0) is_first in (
      ap (λ (m : Me (Unit {0}) View). m.1) is_first,
      subst (λ (v : View). IsSeatSound region v) (sym view) (first_sound region (supers * 262144) budget (omega arith) (omega arith)),
      subst (λ (v : View). AreStakes (replicate 16 true) v) (sym view) (first_stakes (supers * 262144) budget),
      subst (λ (v : View). IsAware v) (sym view)
          (aware_of words (first_view (supers * 262144) budget ∷ []) 0 (first_view (supers * 262144) budget)
          (opens_with supers budget words few enough z) refl),
    )
