-- A counted step keeps the rule.
use Rattle.std.proofs.Common.{◌≡◌, ℕ, ◌+◌, ◌<◌, ◌≤◌, ◌&&◌, ◌||◌, Bool, List, ◌∷◌, set, length, refl, ◌∙◌, ap, subst, arith, ◌⊎◌, inl, inr, ltb}
use Rattle.std.proofs.lemmas.List.{length-set}
use Rattle.std.specs.List.{sum_by}
use Rattle.std.proofs.lemmas.Bool.{cases_lt}
use mathlib.Core.Option.{some}
use lib.ListN.{get_elem?}
use Rattle.pa_slot.specs.declared.title.Title.{Title}
use Rattle.pa_slot.specs.declared.title.OwnState.{OwnState}
use Rattle.pa_slot.specs.declared.title.OwnState.TheVariants.{Clean}
use Rattle.pa_slot.specs.declared.word.Step.{Step}
use Rattle.pa_slot.specs.declared.word.Step.TheVariants.{Issue, Copy, Reset, Free, Write}
use Rattle.pa_machine.specs.declared.event.Event.TheVariants.{Count as CountEvent}
use Rattle.pa_slot.specs.Count.{CanStep, stepped, number_of, refs_of}
use Rattle.pa_slot.specs.Titles.{same_title, count_place, count_word}
use Rattle.pa_slot.specs.Holdings.{Thing, OwnOf, RefOf, one, held_in, IsTitleHeld}
use Rattle.pa_machine.specs.Good.{IsGood}
use Rattle.pa_machine.specs.Events.{returned_at, total_of}
use Rattle.pa_slot.proofs.Same.{title_self}
use Rattle.pa_slot.proofs.Arith.{stepped_is, held_small}
use Rattle.pa_machine.proofs.Amounts.{returned_cases, own_self}
use Rattle.pa_machine.proofs.Totals.{tally_of}
use Rattle.pa_machine.proofs.Happening.{happens_good}
use Rattle.pa_region.specs.declared.view.OwnTitle.{OwnTitle}
use Rattle.pa_region.specs.declared.view.Entry.{Entry}
use Rattle.pa_region.specs.declared.view.View.{View}
use Rattle.pa_region.specs.Views.{held_of_view, byte_words, shown, unsealed_as, idle_of, idle_in, budget_in, low_in, uncut_in, stake_of, stakes_in, logged_of, logged_in, counted, counted_on, names, uncuts, seen_among, least_stake, HasStake}
use Rattle.pa_region.specs.History.{reached}
use Rattle.pa_region.specs.Rule.{IsKept}
use Rattle.pa_region.specs.Moves.{without, is_own_of, HasHandle, CanCount, moved, value_of, after_count}
use Rattle.pa_region.proofs.Adding.{sum_set, one_lt, first_of}
use Rattle.pa_region.proofs.Pieces.{HasPiece, handle_piece, total_set, held_within, lost_by, gained_by, moved_changes, TakesOwn, owns_have, refs_have}
use Rattle.pa_region.proofs.HolderPart.{IsCountStep, change_of, holders_count, held_after}
use Rattle.pa_region.proofs.ReservationPart.{reservations_count}
use Rattle.pa_region.proofs.NamePart.{named_more}
use Rattle.pa_region.proofs.LogPart.{history_by, logs_count, reached_number}
use Rattle.pa_region.proofs.SeenPart.{seen_entered, note, note_here}
use Rattle.pa_region.proofs.Entering.{noted_logs, noted_stakes, logged_set, logged_grows}
use Rattle.pa_region.proofs.Idle.{moved_idle_other, idle_within, copy_idle}
use Rattle.pa_region.proofs.Bytes.{bytes_set, held_in_all, place_below}
use Rattle.pa_region.proofs.Stays.{low_set, stakes_set, undone_set, low_raw}
use Rattle.pa_region.proofs.Found.{handle_held, count_can}
use Rattle.pa_region.proofs.MovedRest.{moved_raws, moved_stakes, moved_uncut, moved_seen, entry_of}
use Rattle.pa_region.proofs.ReadsCount.{reads_count}
use Rattle.pa_region.proofs.CountEvent.{count_event, count_content}
use Rattle.pa_region.proofs.CountValues.{count_values}
use Rattle.pa_region.proofs.CountLists.{count_lists}
use Rattle.pa_region.proofs.TotalsPart.{bytes_stay, totals_other, owes_few}
use Rattle.pa_region.proofs.OneOrder.{touched_now}
use Rattle.pa_region.proofs.OrderPart.{ending, order_plain}
use Rattle.pa_region.proofs.CountFilled.{filled_counted}
use Rattle.pa_region.proofs.CountReady.{count_ready, count_steady}
use Rattle.pa_region.proofs.StepsPart.{logging}

-- the step over all views
count_step_of : (step : Step) (t : Title) (words : List ℕ) (views : List View) (i : ℕ) (v : View) → IsKept words views →
    get_elem? views i ≡ some v → CanCount step t v →
    (a : OwnState) × IsCountStep step t a (byte_words words) (total_of (shown words views))
    (total_of (shown (set words (count_place t) (stepped step (count_word (byte_words words) t)))
    (set views i (after_count step t (count_word (byte_words words) t) v))))
    × TakesOwn step t a v
count_step_of step t words views i v k at_i can =
    let word = count_word (byte_words words) t in
    let moves = moved_changes step t word v (handle_piece step t v can.0) in (
      moves.state,
      record {
        sealed = moves.sealed;
        held = held_in_all words views i v t at_i (handle_held step t v can.0);
        can = count_can step t words views i v k at_i can;
        changes = λ x.
            let s = total_set words (set words (count_place t) (stepped step word)) views i v (after_count step t word v) at_i x in
            let m = moves.changes x in
            let same : held_of_view (after_count step t word v) x ≡ held_of_view (moved step t word v) x = refl in
            omega arith;
      },
      moves.takes,
    )

-- if a count is known to be 0 after the step on its title, it is
idle_here : (step : Step) (t : Title) (words after : List ℕ) (views : List View) (i : ℕ) (v w : View) → IsKept words views →
    get_elem? views i ≡ some v →
    HasPiece step t v → HasHandle step t v → CanStep step (count_word (byte_words words) t) →
    w.owns ≡ (moved step t (count_word (byte_words words) t) v).owns →
    total_of (shown after (set views i w)) (OwnOf t) ≤ total_of (shown words views) (OwnOf t) ⊎ (step ≡ Issue) →
    IsTitleHeld (total_of (shown words views)) t →
    0 < idle_in (set views i w) t → refs_of (stepped step (count_word (byte_words words) t)) ≡ 0
idle_here Issue t words after views i v w k at_i has handle can owns few held some_idle =
    (stepped_is Issue (count_word (byte_words words) t) can).0
idle_here Write t words after views i v w k at_i has handle can owns few held some_idle =
    let s = stepped_is Write (count_word (byte_words words) t) can in s.0 ∙ s.3
idle_here Reset t words after views i v w k at_i has handle can owns few held some_idle =
    let word = count_word (byte_words words) t in
    let s = stepped_is Reset word can in
    let c = sum_set (λ u. idle_of u t) views i v w at_i in
    let same : idle_of w t ≡ idle_of v t = rw owns refl in
    let z = k.holders.known t (omega arith) in
    let p = s.0 in
    absurd (omega arith)
idle_here Free t words after views i v w k at_i has handle can owns few held some_idle =
    let word = count_word (byte_words words) t in
    let s = stepped_is Free word can in
    let c = sum_set (λ u. idle_of u t) views i v w at_i in
    let e = owns_have v t in
    let first = first_of (is_own_of t) v.owns (omega arith) in
    let less = first.1.left_out (λ (o : OwnTitle). one (same_title o.title t && (o.idle || o.sealed))) in
    let same : idle_of w t ≡ sum_by (λ (o : OwnTitle). one (same_title o.title t && (o.idle || o.sealed)))
    (without (is_own_of t) v.owns) =
    rw owns refl in
    let z = k.holders.known t (omega arith) in
    s.0 ∙ z
idle_here Copy t words after views i v w k at_i has handle can owns few held some_idle =
    let word = k.holders.good.counted t held in
    let p = word.owns in
    let q = word.refs in
    let small = held_small (count_word (byte_words words) t) in
    let within = held_within words views i v at_i (RefOf t) in
    let own_within = held_within words views i v at_i (OwnOf t) in
    let on = owns_have v t in
    let z = copy_idle after views i t (count_word (byte_words words) t) v w at_i owns
    (elim few [ inl y ↦ omega arith | inr n ↦ absurd (cc) ])
    (omega arith)
    (elim (cases_lt 0 (unsealed_as v t Clean)) [
      | inl y ↦ inl y
      | inr none ↦ inr (elim (cases_lt 0 (idle_in views t)) [
        | inl y ↦
            let known = k.holders.known t y in
            let rn = refs_have v t in
            absurd (omega arith)
        | inr n ↦ omega arith
      ])
    ]) in
    absurd (omega arith)

-- the logs of the view after a counted step have one more entry
count_logged : (step : Step) (t : Title) (word : ℕ) (v : View) → HasStake v → (weight : Entry → ℕ) →
    logged_of (after_count step t word v) weight ≡ logged_of v weight + weight (entry_of step t word v)
count_logged step t word v has weight =
    rw (moved_stakes step t word v) (noted_logs (entry_of step t word v) v.stakes weight has)

-- a counted step leaves the stakes
pub count_stakes : (step : Step) (t : Title) (word : ℕ) (v : View) → HasStake v → (k : ℕ) →
    stake_of (after_count step t word v) k ≡ stake_of v k
count_stakes step t word v has k = rw (moved_stakes step t word v) (noted_stakes (entry_of step t word v) v.stakes k has)

-- a counted step keeps the rule
pub count_keeps : (step : Step) (t : Title) (words : List ℕ) (views : List View) (i : ℕ) (v : View) → IsKept words views →
    get_elem? views i ≡ some v → CanCount step t v →
    IsKept (set words (count_place t) (stepped step (count_word (byte_words words) t)))
    (set views i (after_count step t (count_word (byte_words words) t) v))
count_keeps step t words views i v k at_i can =
    let word = count_word (byte_words words) t in
    let w = after_count step t word v in
    let piece = handle_piece step t v can.0 in
    let event = count_event step t words views i v k at_i can in
    let x = count_step_of step t words views i v k at_i can in
    let held = held_in_all words views i v t at_i (handle_held step t v can.0) in
    let more = logged_set views i v w (entry_of step t word v) at_i (count_logged step t word v can.1) in
    let at_place = bytes_set words (count_place t) (stepped step word) (place_below words views t k held) in
    let back = held_after step t x.0 (byte_words words) (total_of (shown words views)) _ (idle_in views) (budget_in views)
    (logged_in views counted) k.holders x.1 in
    record {
      history = history_by step t (value_of step t v) k.history;
      list = k.list;
      all = ending (entry_of step t word v) v k.all;
      steps = logging (entry_of step t word v) v ∷ k.steps;
      holders = rw (at_place, more counted) (
          holders_count step t x.0 (byte_words words) (total_of (shown words views)) _ (idle_in views) (idle_in (set views i w))
          (budget_in views) (budget_in (set views i w)) (logged_in views counted)
          k.holders x.1
          (subst (λ (ws : List ℕ). IsGood ws (total_of (shown (set words (count_place t) (stepped step word)) (set views i w)))) at_place
          (happens_good (CountEvent i t step) (shown words views)
          (shown (set words (count_place t) (stepped step word)) (set views i w)) k.holders.good event.0 event.1))
          (let b = sum_set (λ (u : View). u.budget) views i v w at_i in let c = can.2 in omega arith)
          (λ u ne.
          let b = sum_set (λ (z : View). idle_of z u) views i v w at_i in
          let same = moved_idle_other step t u word v ne piece in
          let now : idle_of w u ≡ idle_of (moved step t word v) u = refl in
          omega arith)
          (idle_here step t words (set words (count_place t) (stepped step word)) views i v w k at_i piece can.0 x.1.can refl
          (own_grows step x.1.sealed x.0 (total_of (shown words views))
          (total_of (shown (set words (count_place t) (stepped step word)) (set views i w))) (stepped step word)
          (x.1.changes (OwnOf t))) held)
          (λ u some_idle. let z = idle_within words views u in omega arith));
      values = rw at_place (count_values step t words views i v k at_i can);
      reservations = reservations_count t (byte_words words) (total_of (shown words views)) _ (idle_in views) (budget_in views)
          (logged_in views counted)
          (low_in views) (low_in (set views i w)) _ _ (uncut_in views) (uncut_in (set views i w))
          k.reservations k.holders held (λ u y. (back u).1 y) (low_set views i v w at_i (moved_raws step t word v)) (low_raw words views)
          (λ u. more (names u)) (λ u. let m = more (uncuts u) in omega arith);
      named = named_more t (length (byte_words words)) (length (byte_words (set words (count_place t) (stepped step word))))
          (total_of (shown words views)) (total_of (shown (set words (count_place t) (stepped step word)) (set views i w))) (low_in views)
          _ _ (uncut_in views) (uncut_in (set views i w))
          k.named k.reservations k.holders.good.divided held
          (rw at_place (length-set (byte_words words) (count_place t) (stepped step word))) (λ u none y. (back u).0 y)
          (λ u. more (names u)) (λ u. let m = more (uncuts u) in omega arith);
      logs = rw at_place (
          logs_count step t x.0 (value_of step t v) (byte_words words) (total_of (shown words views)) _ (idle_in views) (budget_in views)
          (logged_in views counted)
          k.history (logged_in views) (logged_in (set views i w)) (stakes_in views) (stakes_in (set views i w)) k.logs k.holders x.1
          (logged_grows views) more (stakes_set views i v w at_i (count_stakes step t word v can.1)));
      content = count_content step t words views i v k at_i can;
      reads = reads_count step t words views i v k at_i can k.reads;
      seen = seen_entered views i v w (logged_in views) (logged_in (set views i w)) (entry_of step t word v) t (number_of word + 1) at_i
          (ap (λ ss. note t (number_of word + 1) ∷ ss) (moved_seen step t word v))
          (count_logged step t word v can.1) more
          (let m = more (counted_on t) in
          let one_more : one (same_title t t) ≡ 1 = ap one (title_self t) in
          let l = (k.logs.chain t).all in
          let n = reached_number (k.history t) (k.logs.chain t).legal in
          let e : number_of word ≡ number_of (reached (k.history t)) = ap number_of (k.logs.last t held) in
          omega arith)
          (fresh (number_of word + 1) (seen_among t (note t (number_of word + 1) ∷ v.seen)) (note_here t (number_of word + 1) v.seen))
          k.seen;
      lists = count_lists step t x.0 words (set words (count_place t) (stepped step word)) views i v k at_i can x.1
          (happens_good (CountEvent i t step) (shown words views)
          (shown (set words (count_place t) (stepped step word)) (set views i w)) k.holders.good event.0 event.1)
          (rw at_place (count_values step t words views i v k at_i can)) at_place;
      undone = undone_set views i v w at_i (moved_uncut step t word v) (λ u. let m = more (uncuts u) in omega arith) k.undone;
      totals = totals_other words (set words (count_place t) (stepped step word)) views i v w (entry_of step t word v) at_i
          (rw (moved_stakes step t word v) refl) can.1 k.totals
          (bytes_stay words (count_place t) (stepped step word) (place_below words views t k held)) more (λ n. refl) (λ q. refl)
          (owes_few words t step word (value_of step t v) (k.holders.good.divided.well t held) k.totals.small);
      ordered = order_plain k.all k.list views i v w (entry_of step t word v) at_i
          (rw (moved_stakes step t word v) refl) can.1 k.logs.each_stake (λ n. refl)
          (touched_now words views t k held) k.ordered;
      filled =
          let change = change_of step t x.0 (byte_words words) (total_of (shown words views))
          (total_of (shown (set words (count_place t) (stepped step word)) (set views i w))) x.1 in
          filled_counted t word (value_of step t v) (stepped step word) x.1.sealed x.0
          (record { stake = least_stake v.stakes; entry = entry_of step t word v }) k.steps k.all k.history
          (total_of (shown words views)) (total_of (shown (set words (count_place t) (stepped step word)) (set views i w))) views k.filled
          (tally_of (shown words views).holdings)
          (tally_of (shown (set words (count_place t) (stepped step word)) (set views i w)).holdings) step (least_stake v.stakes)
          (set views i w) refl
          (count_ready step t words views i v k at_i can x.0 x.2) x.1.changes change.lost_here change.gained_here
          (count_steady step t words views i v k at_i can);
    }
  where
    fresh : (n a : ℕ) → n ≤ a → one (ltb a n) ≡ 0
    fresh n a h = elim (one_lt a n) [ inl y ↦ let z = y.1 in absurd (omega arith) | inr m ↦ m.0 ]

    none_given : (left : ℕ) → held_in (returned_at left t) (OwnOf t) ≡ 0
    none_given left = elim (returned_cases left t) [ inl y ↦ rw y.1 refl | inr n ↦ rw n.1 refl ]

    own_grows : (step : Step) (sealed : Bool) (a : OwnState) (before now : Thing → ℕ) (left : ℕ) →
        now (OwnOf t) + held_in (lost_by step t sealed a) (OwnOf t) ≡ before (OwnOf t) + held_in (gained_by step t sealed left) (OwnOf t) →
        (now (OwnOf t) ≤ before (OwnOf t)) ⊎ (step ≡ Issue)
    own_grows Issue sealed a before now left e = inr refl
    own_grows Copy sealed a before now left e = inl (omega arith)
    own_grows Reset sealed a before now left e = inl (let z = none_given left in omega arith)
    own_grows Free sealed a before now left e = inl (let z = none_given left in omega arith)
    own_grows Write sealed a before now left e =
        inl (let p = own_self sealed t a in let q = own_self sealed t Clean in omega arith)
