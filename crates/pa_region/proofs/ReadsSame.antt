-- What the rule says of reads, after steps that make no counted step: a look, and those that log nothing.
use Rattle.std.proofs.Common.{◌≡◌, ℕ, ◌+◌, ◌<◌, ◌≤◌, Bool, true, false, ◌&&◌, List, Some, length, set, refl, sym, ◌∙◌, ap, subst, arith, inl, inr, eqb}
use Rattle.std.specs.Prelude.{if◌then◌else◌}
use Rattle.std.specs.List.{sum_by}
use Rattle.std.proofs.lemmas.Bool.{true≢false}
use Rattle.std.proofs.lemmas.Bool.Decides.{eqb_tells}
use mathlib.Core.Option.{some, some-injective}
use lib.ListN.{get_elem?}
use Rattle.pa_slot.specs.declared.title.Title.{Title}
use Rattle.pa_slot.specs.Count.{held_of}
use Rattle.pa_slot.specs.Titles.{same_title, count_word}
use Rattle.pa_slot.specs.Holdings.{one, IsTitleHeld}
use Rattle.pa_machine.specs.Events.{total_of}
use Rattle.pa_region.specs.declared.view.Entry.{Entry}
use Rattle.pa_region.specs.declared.view.Entry.TheVariants.{Looked}
use Rattle.pa_region.specs.declared.view.Stake.{Stake}
use Rattle.pa_region.specs.declared.view.View.{View}
use Rattle.pa_region.specs.Views.{byte_words, shown, own_of, least_stake, counted_at, logged_of, HasTitle, HasStake}
use Rattle.pa_region.specs.History.{Done}
use Rattle.pa_region.specs.Rule.{IsKept}
use Rattle.pa_region.specs.Moves.{noted, after_look}
use Rattle.pa_region.specs.Pairs.{pairs, last_entry, weight_after, amount_by, least_log, paired_in, paired_by, logged_by}
use Rattle.pa_region.specs.Waiting.{gave_no_poison, quiet_read, is_poisoned, poisoned_of, unclean_of, poisoned_apart, Waits, IsReader, Reads}
use Rattle.pa_region.proofs.Adding.{sum_part, one_lt}
use Rattle.pa_region.proofs.Pieces.{title_held}
use Rattle.pa_region.proofs.Entering.{least_noted, noted_stakes}
use Rattle.pa_region.proofs.Bytes.{held_in_all}
use Rattle.pa_region.proofs.Shown.{put_there, put_beside}
use Rattle.pa_region.proofs.OneTitle.{number_length}
use Rattle.pa_region.proofs.PairSums.{paired_set, paired_by_set, logged_by_set, by_same}
use Rattle.pa_region.proofs.Readings.{gave_none_after, quiet_none_after, right_same}
use Rattle.pa_region.proofs.Waitings.{last_noted, least_log_within, waits_same, waits_now}
use Rattle.pa_region.proofs.PoisonedOwns.{looked_same, apart_set}

-- a fact of each view, after one changed
pub each_set : (P Q : View → Type 0) (views : List View) (i : ℕ) (v w : View) → get_elem? views i ≡ some v →
    ((j : ℕ) (u : View) → get_elem? views j ≡ some u → P u) → Q w →
    ((j : ℕ) (u : View) → (j ≡ i → ⊥) → get_elem? views j ≡ some u → P u → Q u) →
    (j : ℕ) (u : View) → get_elem? (set views i w) j ≡ some u → Q u
each_set P Q views i v w at_i each here beside j u at_j = elim (eqb_tells j i) [
  | inl y ↦
      let there : get_elem? (set views i w) j ≡ some w = ap (get_elem? (set views i w)) y.1 ∙ put_there views i v w at_i in
      subst Q (some-injective w u (sym there ∙ at_j)) here
  | inr n ↦
      let was : get_elem? views j ≡ some u = sym (put_beside views i j w n.1) ∙ at_j in
      beside j u n.1 was (each j u was)
]

-- the least stake stays when an entry is made
pub stake_noted : (e : Entry) (v w : View) → w.stakes ≡ noted e v.stakes → HasStake v → HasStake w
stake_noted e v w stakes has = let l : least_stake w.stakes ≡ least_stake v.stakes = ap least_stake stakes ∙ least_noted e v.stakes in
    omega arith

-- an amount is the same if none is added
pub none_more : (b : Bool) (more was now : ℕ) → now ≡ was + (if b then more else 0) → more ≡ 0 → now ≡ was
none_more true more was now e z = omega arith
none_more false more was now e z = omega arith

-- A view that handed something over since its last entry waits with nothing.
pub reader_handed : (history : Title → List Done) (words : List ℕ) (v : View) → v.since.handed ≡ true → (0 < unclean_of v → HasStake v) →
    IsReader history words v
reader_handed history words v handed stake = record {
  waits = λ t found is quiet. absurd (true≢false (sym handed ∙ quiet));
  stake = stake;
}

-- Other views that are each a reader: what the rule says of reads goes over if they have the logs of each stake as
-- before, and no poisoned Own is clean, freed, or in a view with a stake that it was apart from.
pub reads_over : (history : Title → List Done) (words after : List ℕ) (views later : List View) → Reads history words views →
    ((weight : Entry → Entry → ℕ) → paired_in later weight ≡ paired_in views weight) →
    ((r : ℕ) (weight : Entry → Entry → ℕ) → paired_by later r weight ≡ paired_by views r weight) →
    ((r : ℕ) (weight : Entry → ℕ) → logged_by later r weight ≡ logged_by views r weight) →
    ((t : Title) (r : ℕ) → 0 < poisoned_apart views t r → 0 < poisoned_apart later t r) →
    ((i : ℕ) (v : View) → get_elem? later i ≡ some v → IsReader history after v) → Reads history after later
reads_over history words after views later reads paired by_number logged poisoned each = record {
  right = right_same history (paired_in views) (paired_in later) (paired_by views) (paired_by later) (logged_by views) (logged_by later)
      (poisoned_apart views) (poisoned_apart later) reads.right (paired gave_no_poison)
      (λ own t found value. paired (quiet_read own t found value))
      (λ r own t found value. by_number r (quiet_read own t found value)) (λ r t n. logged r (counted_at t n)) poisoned;
  each_view = each;
}

-- A step that logs nothing keeps what the rule says of reads, if its view has its stakes and titles as before, each
-- poisoned Own stays one, an Own is unclean only with a stake, and the words of held titles stay.
pub reads_other : (history : Title → List Done) (words after : List ℕ) (views : List View) (i : ℕ) (v w : View) →
    get_elem? views i ≡ some v →
    Reads history (byte_words words) views → w.stakes ≡ v.stakes → ((t : Title) → HasTitle v t → HasTitle w t) →
    (w.since.handed ≡ false → v.since.handed ≡ false) → (0 < unclean_of w → HasStake w) →
    ((t : Title) → poisoned_of v t ≤ poisoned_of w t) →
    ((t : Title) → IsTitleHeld (total_of (shown words views)) t → count_word (byte_words after) t ≡ count_word (byte_words words) t) →
    Reads history (byte_words after) (set views i w)
reads_other history words after views i v w at_i reads stakes titles handed unclean poisoned same =
    reads_over history (byte_words words) (byte_words after) views (set views i w) reads
    (λ weight. by_same (λ (s : Stake). pairs weight s.log) views i v w at_i stakes)
    (λ r weight. by_same (amount_by r (pairs weight)) views i v w at_i stakes)
    (λ r weight. by_same (amount_by r (sum_by weight)) views i v w at_i stakes)
    (λ t r some_own. let l =
    apart_set views i v w at_i (λ k. ap (λ ss. sum_by (λ (s : Stake). one (eqb s.number k)) ss) stakes) t r (poisoned t) in omega arith)
    (each_set (IsReader history (byte_words words)) (IsReader history (byte_words after)) views i v w at_i reads.each_view
    (record {
      waits = λ t found is quiet.
          let old = (reads.each_view i v at_i).waits t found (ap (λ ss. last_entry (least_log ss)) (sym stakes) ∙ is) (handed quiet) in
          waits_same history (byte_words words) (byte_words after) v w t found old (titles t old.has) stakes
          (ap held_of (same t (held_in_all words views i v t at_i (title_held v t old.has))));
      stake = unclean;
    })
    (λ j u ne at_j reader. record {
      waits = λ t found is quiet.
          let old = reader.waits t found is quiet in
          waits_same history (byte_words words) (byte_words after) u u t found old old.has refl
          (ap held_of (same t (held_in_all words views j u t at_j (title_held u t old.has))));
      stake = reader.stake;
    }))

-- two looks that are one
look_is : (t u : Title) (word found : ℕ) → Some (Looked t word) ≡ Some (Looked u found) → (t ≡ u) × (word ≡ found)
look_is t u word found e = (cc, cc)

-- a look keeps what the rule says of reads
pub reads_look : (t : Title) (words : List ℕ) (views : List View) (i : ℕ) (v : View) (k : IsKept words views) → get_elem? views i ≡ some v →
    HasTitle v t → HasStake v → Reads k.history (byte_words words) views →
    Reads k.history (byte_words words) (set views i (after_look t (count_word (byte_words words) t) v))
reads_look t words views i v k at_i mine has reads =
    let word = count_word (byte_words words) t in
    let w = after_look t word v in
    let e = Looked t word in
    record {
      right = right_same k.history (paired_in views) (paired_in (set views i w)) (paired_by views) (paired_by (set views i w))
          (logged_by views) (logged_by (set views i w))
          (poisoned_apart views) (poisoned_apart (set views i w)) reads.right
          (let p = paired_set views i v w e at_i refl has gave_no_poison in
          let z = gave_none_after (last_entry (least_log v.stakes)) e refl in omega arith)
          (λ own u found value.
          let p = paired_set views i v w e at_i refl has (quiet_read own u found value) in
          let z = quiet_none_after own u found value (last_entry (least_log v.stakes)) e refl in omega arith)
          (λ r own u found value. none_more (eqb (least_stake v.stakes) r)
          (weight_after (quiet_read own u found value) (last_entry (least_log v.stakes)) e) _ _
          (paired_by_set views i v w e at_i refl has r (quiet_read own u found value))
          (quiet_none_after own u found value (last_entry (least_log v.stakes)) e refl))
          (λ r u n. none_more (eqb (least_stake v.stakes) r) (counted_at u n e) _ _
          (logged_by_set views i v w e at_i refl has r (counted_at u n)) refl)
          (λ u r some_own.
          let same : poisoned_of w u ≡ poisoned_of v u =
          looked_same (λ title state. one (same_title title u && is_poisoned state)) t word v.owns in
          let l = apart_set views i v w at_i (λ n. noted_stakes e v.stakes n has) u r (omega arith) in omega arith);
      each_view = each_set (IsReader k.history (byte_words words)) (IsReader k.history (byte_words words)) views i v w at_i reads.each_view
          (record {
            waits = λ u found is quiet.
                let one_look = look_is t u word found (sym (last_noted e v.stakes has) ∙ is) in
                subst (λ (x : Title). Waits k.history (byte_words words) w x found) one_look.0 (
                subst (λ (n : ℕ). Waits k.history (byte_words words) w t n) one_look.1 (now has mine));
            stake = λ some_own. stake_noted e v w refl has;
          })
          (λ j u ne at_j reader. reader);
    }
  where
    now : HasStake v → HasTitle v t →
        Waits k.history (byte_words words) (after_look t (count_word (byte_words words) t) v) t (count_word (byte_words words) t)
    now stake title =
        let word = count_word (byte_words words) t in
        let w = after_look t word v in
        let held = held_in_all words views i v t at_i (title_held v t mine) in
        let same : own_of w t ≡ own_of v t = looked_same (λ name state. one (same_title name t)) t word v.owns in
        waits_now k.history (byte_words words) v w t word (omega arith) stake refl (number_length words views t k held) refl
        (λ n later.
        let c = (k.logs.chain t).numbers n in
        let p = sum_part (λ u. logged_of u (counted_at t n)) views i v at_i in
        let l = least_log_within v (counted_at t n) in
        elim (one_lt n (length (k.history t))) [ inl y ↦ let z = y.1 in absurd (omega arith) | inr m ↦ let z = m.0 in omega arith ])
