-- A counted step keeps what the rule says of reads.
use Rattle.std.proofs.Common.{◌≡◌, ℕ, ◌+◌, ◌<◌, ◌≤◌, true, false, List, Some, length, set, refl, sym, ◌∙◌, ap, subst, arith, inl, inr, eqb}
use Rattle.std.proofs.lemmas.Bool.{cases_Bool, eq-eqb, true≢false}
use Rattle.std.proofs.lemmas.List.{get_or-set_other, get_or-set_same}
use mathlib.Core.Option.{some}
use lib.ListN.{get_elem?}
use Rattle.pa_slot.specs.declared.title.Title.{Title}
use Rattle.pa_slot.specs.declared.word.Step.{Step}
use Rattle.pa_slot.specs.declared.word.Step.TheVariants.{Issue, Copy, Reset, Free, Write}
use Rattle.pa_slot.specs.Count.{stepped}
use Rattle.pa_slot.specs.declared.title.OwnState.TheVariants.{Poisoned}
use Rattle.pa_slot.specs.Titles.{content_count, count_place, count_word}
use Rattle.pa_slot.specs.Holdings.{FreeTitle, OwnOf, RefOf, IsTitleHeld}
use Rattle.pa_machine.specs.Events.{total_of}
use Rattle.pa_machine.proofs.Parts.{free_or, apart_words}
use Rattle.pa_slot.proofs.Same.{title_tells, title_self}
use Rattle.pa_region.specs.declared.view.Entry.TheVariants.{Looked}
use Rattle.pa_region.specs.declared.view.View.{View}
use Rattle.pa_region.specs.Views.{byte_words, shown, held_of_view, own_of, stake_of, least_stake, looked_at, logged_of, logged_in, HasTitle}
use Rattle.pa_region.specs.Rule.{IsKept}
use Rattle.pa_region.specs.Moves.{HasHandle, CanCount, noted, value_of, after_count}
use Rattle.pa_region.specs.Frees.{is_free}
use Rattle.pa_region.specs.Pairs.{last_entry, weight_after, least_log, paired_in, paired_by, logged_by}
use Rattle.pa_region.specs.Waiting.{gave_no_poison, quiet_read, poisoned_apart, IsReader, Reads}
use Rattle.pa_region.proofs.Adding.{sum_part, sum_pair}
use Rattle.pa_region.proofs.Pieces.{total_sum, held_within, frees_have, owns_have, refs_have, title_held, idle_owns, own_as_own}
use Rattle.pa_region.proofs.Entering.{least_there, noted_stakes}
use Rattle.pa_region.proofs.LogPart.{history_by}
use Rattle.pa_region.proofs.Bytes.{bytes_set, bytes_length, held_in_all, place_below}
use Rattle.pa_region.proofs.Found.{handle_held, count_can}
use Rattle.pa_region.proofs.MovedRest.{moved_stakes, entry_of}
use Rattle.pa_region.proofs.OneTitle.{number_length, few_owns}
use Rattle.pa_region.proofs.PairSums.{paired_set, paired_by_set, logged_by_set, logged_by_within, paired_by_within}
use Rattle.pa_region.proofs.Readings.{gave_none_after, quiet_none_after, paired_looked}
use Rattle.pa_region.proofs.Freeing.{IsCountedBy, look_within, right_counted}
use Rattle.pa_region.proofs.Waitings.{last_noted, last_counts, least_log_within, waits_counted}
use Rattle.pa_region.proofs.PoisonedOwns.{poisoned_moved, apart_set, none_beside}
use Rattle.pa_region.proofs.ReadsSame.{each_set, stake_noted, none_more}

-- what two views hold, all views hold
both_held : (words : List ℕ) (views : List View) (i j : ℕ) (v u : View) → get_elem? views i ≡ some v → get_elem? views j ≡ some u →
    (j ≡ i → ⊥) → (t : Title) →
    (held_of_view v (FreeTitle t) + held_of_view u (FreeTitle t) ≤ total_of (shown words views) (FreeTitle t)) ×
    (held_of_view v (OwnOf t) + held_of_view u (OwnOf t) ≤ total_of (shown words views) (OwnOf t))
both_held words views i j v u at_i at_j ne t =
    let a = total_sum words views (FreeTitle t) in
    let b = total_sum words views (OwnOf t) in
    let p = sum_pair (λ x. held_of_view x (FreeTitle t)) views i j v u at_i at_j ne in
    let q = sum_pair (λ x. held_of_view x (OwnOf t)) views i j v u at_i at_j ne in
    (omega arith, omega arith)

-- while another view has the title, no view issues or writes it
pub others_keep : (step : Step) (t : Title) (words : List ℕ) (views : List View) (i j : ℕ) (v u : View) → IsKept words views →
    get_elem? views i ≡ some v → get_elem? views j ≡ some u →
    (j ≡ i → ⊥) → CanCount step t v → HasTitle u t → (step ≡ Issue → ⊥) × (step ≡ Write → ⊥)
others_keep Issue t words views i j v u k at_i at_j ne can title =
    let held = held_in_all words views i v t at_i (handle_held Issue t v can.0) in
    let word = k.holders.good.counted t held in
    let two = both_held words views i j v u at_i at_j ne t in
    let two0 = two.0 in
    let mine = frees_have v t in
    let has = can.0 in
    let o = held_within words views j u at_j (OwnOf t) in let r = held_within words views j u at_j (RefOf t) in
    let fn = frees_have u t in let on = owns_have u t in let rn = refs_have u t in
    absurd (elim (free_or (count_word (byte_words words) t)) [
      | inl free ↦
          let z = word.free free in let p = word.owns in let q = word.refs in
          let f0 = free.0 in let f1 = free.1 in
          omega arith
      | inr used ↦ let z = word.taken used in omega arith
    ])
others_keep Write t words views i j v u k at_i at_j ne can title =
    let held = held_in_all words views i v t at_i (handle_held Write t v can.0) in
    let word = k.holders.good.counted t held in
    let two = both_held words views i j v u at_i at_j ne t in
    let two1 = two.1 in
    let step = (count_can Write t words views i v k at_i can).0 in
    let set_bit = step.0 in let no_refs = step.1 in
    let mine = idle_owns v t can.0.0 in
    let p = word.owns in let q = word.refs in
    let z = word.taken (λ free. let low = free.0 in omega arith) in
    let f = held_within words views j u at_j (FreeTitle t) in let r = held_within words views j u at_j (RefOf t) in
    let fn = frees_have u t in let on = owns_have u t in let rn = refs_have u t in
    absurd (omega arith)
others_keep Copy t words views i j v u k at_i at_j ne can title = (λ e. absurd (cc), λ e. absurd (cc))
others_keep Reset t words views i j v u k at_i at_j ne can title = (λ e. absurd (cc), λ e. absurd (cc))
others_keep Free t words views i j v u k at_i at_j ne can title = (λ e. absurd (cc), λ e. absurd (cc))

-- a look that a view's log ends with is within its title's history
pub last_within : (words : List ℕ) (views : List View) (j : ℕ) (u : View) (k : IsKept words views) → get_elem? views j ≡ some u →
    (t : Title) (found : ℕ) →
    last_entry (least_log u.stakes) ≡ Some (Looked t found) → 0 < logged_in views (looked_at t found)
last_within words views j u k at_j t found is =
    let a = last_counts (looked_at t found) (least_log u.stakes) (Looked t found) is in
    let b = least_log_within u (looked_at t found) in
    let c = sum_part (λ x. logged_of x (looked_at t found)) views j u at_j in
    let one_here : looked_at t found (Looked t found) ≡ 1 = rw (title_self t, eq-eqb found found refl) refl in
    omega arith

-- what a counted step does to logs and poisoned Owns
counted_by : (step : Step) (t : Title) (words : List ℕ) (views : List View) (i : ℕ) (v : View) → IsKept words views →
    get_elem? views i ≡ some v → CanCount step t v →
    IsCountedBy t step (value_of step t v) (count_word (byte_words words) t) (least_stake v.stakes) (logged_by views)
    (logged_by (set views i (after_count step t (count_word (byte_words words) t) v))) (poisoned_apart views)
    (poisoned_apart (set views i (after_count step t (count_word (byte_words words) t) v)))
counted_by step t words views i v k at_i can =
    let word = count_word (byte_words words) t in
    let w = after_count step t word v in
    let held = held_in_all words views i v t at_i (handle_held step t v can.0) in
    let few = few_owns words views t k held in
    let few_here : own_of v t ≤ 1 = let p = sum_part (λ u. own_of u t) views i v at_i in omega arith in
    let stakes : w.stakes ≡ noted (entry_of step t word v) v.stakes = ap (noted (entry_of step t word v)) (moved_stakes step t word v) in
    let same : (n : ℕ) → stake_of w n ≡ stake_of v n =
    λ n. rw (moved_stakes step t word v) (noted_stakes (entry_of step t word v) v.stakes n can.1) in
    let kept : (u : Title) (r : ℕ) → (t ≡ u → is_free step ≡ false) → 0 < poisoned_apart views u r →
    0 < poisoned_apart (set views i w) u r =
    λ u r other some_own. let l = apart_set views i v w at_i same u r (poisoned_moved step t u word v can.0 few_here other) in
    omega arith in
    record {
      entry = λ r weight. logged_by_set views i v w (entry_of step t word v) at_i stakes can.1 r weight;
      owns = λ u r some_own. elim (title_tells t u) [
        | inl y ↦ elim (cases_Bool (is_free step)) [
          | inl free ↦ inr (
            y.1,
            free,
            λ e.
                let mine = least_there v.stakes can.1 in
                let none = none_beside views i v at_i t (least_stake v.stakes) few (own_there step t v can.0 free) mine in
                let some_here : 0 < poisoned_apart views t (least_stake v.stakes) = rw (y.1, e) some_own in
                absurd (omega arith),
          )
          | inr other ↦ inl (λ _. other, kept u r (λ _. other) some_own)
        ]
        | inr n ↦ inl (λ e. absurd (n.1 e), kept u r (λ e. absurd (n.1 e)) some_own)
      ];
    }
  where
    own_there : (step : Step) (t : Title) (v : View) → HasHandle step t v → is_free step ≡ true → 0 < own_of v t
    own_there Issue t v has free = absurd (true≢false (sym free))
    own_there Copy t v has free = absurd (true≢false (sym free))
    own_there Reset t v has free = absurd (true≢false (sym free))
    own_there Free t v has free = let l = own_as_own v t (Poisoned (content_count t)) in omega arith
    own_there Write t v has free = absurd (true≢false (sym free))

-- the title's word after the step, and those of the others that are held
words_after : (step : Step) (t : Title) (words : List ℕ) (views : List View) → IsKept words views →
    IsTitleHeld (total_of (shown words views)) t → (x : ℕ) →
    (count_word (byte_words (set words (count_place t) x)) t ≡ x) ×
    ((u : Title) → IsTitleHeld (total_of (shown words views)) u → (t ≡ u → ⊥) →
    count_word (byte_words (set words (count_place t) x)) u ≡ count_word (byte_words words) u)
words_after step t words views k held x =
    let below = place_below words views t k held in
    let long = bytes_length words in (
      rw (bytes_set words (count_place t) x below) (get_or-set_same (byte_words words) (count_place t) x 0 (omega arith)),
      λ u other ne. rw (bytes_set words (count_place t) x below) (
          get_or-set_other (byte_words words) (count_place t) (count_place u) x 0 (λ e.
          apart_words (length (byte_words words)) (total_of (shown words views)) t u (count_place t) k.holders.good.divided held other ne
          (omega arith, omega arith) (omega arith, omega arith))),
    )

-- a counted step keeps what the rule says of reads
pub reads_count : (step : Step) (t : Title) (words : List ℕ) (views : List View) (i : ℕ) (v : View) (k : IsKept words views) →
    get_elem? views i ≡ some v → CanCount step t v →
    Reads k.history (byte_words words) views →
    Reads (history_by step t (value_of step t v) k.history)
    (byte_words (set words (count_place t) (stepped step (count_word (byte_words words) t))))
    (set views i (after_count step t (count_word (byte_words words) t) v))
reads_count step t words views i v k at_i can reads =
    let word = count_word (byte_words words) t in
    let w = after_count step t word v in
    let e = entry_of step t word v in
    let after = set words (count_place t) (stepped step word) in
    let held = held_in_all words views i v t at_i (handle_held step t v can.0) in
    let stakes : w.stakes ≡ noted e v.stakes = ap (noted e) (moved_stakes step t word v) in
    let new = words_after step t words views k held (stepped step word) in
    record {
      right = right_counted t step (value_of step t v) word (least_stake v.stakes) k.history (paired_in views) (paired_in (set views i w))
          (paired_by views) (paired_by (set views i w))
          (logged_in views) (logged_by views) (logged_by (set views i w)) (poisoned_apart views)
          (poisoned_apart (set views i w)) reads.right
          k.logs.chain (number_length words views t k held) (paired_looked views) (paired_by_within views) (logged_by_within views)
          (let p = paired_set views i v w e at_i stakes can.1 gave_no_poison in
          let z = gave_none_after (last_entry (least_log v.stakes)) e refl in omega arith)
          (λ own u found value.
          let p = paired_set views i v w e at_i stakes can.1 (quiet_read own u found value) in
          let z = quiet_none_after own u found value (last_entry (least_log v.stakes)) e refl in omega arith)
          (λ r own u found value. none_more (eqb (least_stake v.stakes) r)
          (weight_after (quiet_read own u found value) (last_entry (least_log v.stakes)) e) _ _
          (paired_by_set views i v w e at_i stakes can.1 r (quiet_read own u found value))
          (quiet_none_after own u found value (last_entry (least_log v.stakes)) e refl))
          (counted_by step t words views i v k at_i can);
      each_view = each_set (IsReader k.history (byte_words words))
          (IsReader (history_by step t (value_of step t v) k.history) (byte_words after)) views i v w at_i reads.each_view
          (record {
            waits = λ u found is quiet.
                let no_look : Some e ≡ Some (Looked u found) = sym (last_noted e v.stakes can.1) ∙
                (sym (ap (λ ss. last_entry (least_log ss)) stakes) ∙ is) in
                absurd (cc);
            stake = λ some_own. stake_noted e v w stakes can.1;
          })
          (λ j u ne at_j reader. record {
            waits = λ x found is quiet.
                let old = reader.waits x found is quiet in
                let looked = last_within words views j u k at_j x found is in
                waits_counted t step (value_of step t v) k.history (byte_words words) (byte_words after) u x found old
                (look_within (logged_in views) (k.history x) x found (k.logs.chain x) looked)
                (count_can step t words views i v k at_i can)
                (λ same. others_keep step t words views i j v u k at_i at_j ne can (subst (λ (z : Title). HasTitle u z) (sym same) old.has))
                new.0
                (λ other. new.1 x (held_in_all words views j u x at_j (title_held u x old.has)) other);
            stake = reader.stake;
          });
    }
