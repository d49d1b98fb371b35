-- A read keeps the rule.
use Rattle.std.proofs.Common.{◌≡◌, ℕ, ◌+◌, ◌%◌, ◌<◌, List, ◌∷◌, Some, length, set, refl, sym, ◌∙◌, ap, arith, inl, inr, eqb}
use Rattle.std.specs.Prelude.{if◌then◌else◌}
use mathlib.Core.Option.{some}
use lib.ListN.{get_elem?}
use Rattle.pa_slot.specs.declared.title.Title.{Title}
use Rattle.pa_machine.specs.declared.event.Event.TheVariants.{Load}
use Rattle.pa_slot.specs.Titles.{content_count, content_at}
use Rattle.pa_slot.specs.Holdings.{Piece, Thing, FreeTitle, OwnOf, RefOf, IsTitleHeld}
use Rattle.pa_machine.specs.Events.{IsEnabled, Happens, total_of}
use Rattle.pa_region.specs.declared.view.Entry.{Entry}
use Rattle.pa_region.specs.declared.view.Entry.TheVariants.{Looked, Read}
use Rattle.pa_region.specs.declared.view.View.{View}
use Rattle.pa_region.specs.Views.{pieces_of, byte_words, shown, idle_of, idle_in, budget_in, low_in, uncut_in, stakes_in, least_stake, logged_of, logged_in, ahead_of, ahead_in, unseen_by, unseen_of, unseen_in, counted, counted_on, counted_at, names, uncuts, HasStake}
use Rattle.pa_region.specs.Rule.{IsKept}
use Rattle.pa_region.proofs.ListPart.{lists_grown}
use Rattle.pa_region.specs.Pairs.{last_entry, least_log, weight_after, paired_in, paired_by, logged_by}
use Rattle.pa_region.specs.Waiting.{poisoned_apart, IsReader, Reads}
use Rattle.pa_region.specs.Shares.{IsUser}
use Rattle.pa_region.specs.Loads.{has_own, has_unclean, after_read, content_offset}
use Rattle.pa_region.proofs.Adding.{sum_set, one_lt}
use Rattle.pa_region.proofs.Pieces.{total_set}
use Rattle.pa_region.proofs.HolderPart.{holders_same}
use Rattle.pa_region.proofs.ReservationPart.{reservations_count}
use Rattle.pa_region.proofs.NamePart.{named_more}
use Rattle.pa_region.proofs.LogPart.{chain_other}
use Rattle.pa_region.proofs.SeenPart.{seen_same}
use Rattle.pa_region.proofs.Entering.{noted_logs, noted_stakes, logged_set}
use Rattle.pa_region.proofs.Shown.{shown_actor, map_same}
use Rattle.pa_region.proofs.Stays.{low_set, stakes_set, undone_set, low_raw}
use Rattle.pa_region.proofs.ValuePart.{values_same}
use Rattle.pa_region.proofs.CountEvent.{content_covered, title_in_core}
use Rattle.pa_region.proofs.PairSums.{paired_set, paired_by_set, logged_by_set}
use Rattle.pa_region.proofs.Readings.{right_both, right_same}
use Rattle.pa_region.proofs.OneRead.{HasLast, right_read}
use Rattle.pa_region.proofs.PoisonedOwns.{apart_set}
use Rattle.pa_region.proofs.Waitings.{last_noted}
use Rattle.pa_region.proofs.ReadsSame.{each_set, none_more, stake_noted}
use Rattle.pa_region.proofs.ReadsCount.{last_within}
use Rattle.pa_region.proofs.OneLog.{own_log}
use Rattle.pa_region.proofs.ReadStep.{user_in_all, word_read}
use Rattle.pa_region.proofs.TotalsPart.{words_stay, totals_other}
use Rattle.pa_region.proofs.OrderPart.{ending, order_plain}
use Rattle.pa_region.proofs.StepsPart.{logging, eased_same, filled_entry}
use Rattle.pa_region.proofs.StepsKept.{others_apart, read_in_place}

-- the entry of a read that gave the value of its word
abbrev pub read_entry : Title → ℕ → ℕ → View → Entry
read_entry t place value v = Read t place value v.since (has_own v t) (has_unclean v t)

-- the value that is found
abbrev pub value_read : List ℕ → Title → ℕ → ℕ
value_read words t place = content_at (byte_words words) t place

-- the views after it
abbrev pub views_read : List ℕ → List View → ℕ → View → Title → ℕ → List View
views_read words views i v t place = set views i (after_read t place (value_read words t place) v)

-- what a read knows of its log's last entry
read_last : (words : List ℕ) (views : List View) (i : ℕ) (v : View) (t : Title) (place : ℕ) (k : IsKept words views) →
    get_elem? views i ≡ some v → IsUser t v →
    HasStake v → Reads k.history (byte_words words) views →
    HasLast k.history (byte_words words) v t (last_entry (least_log v.stakes))
    (logged_by (views_read words views i v t place) (least_stake v.stakes))
read_last words views i v t place k at_i has stake reads = record {
  legal = (k.logs.chain t).legal;
  at_end = k.logs.last t (user_in_all words views i v t at_i has);
  looked = λ found is. (k.logs.chain t).looks found (last_within words views i v k at_i t found is);
  waits = λ found is quiet. (reads.each_view i v at_i).waits t found is quiet;
  own_log = λ n.
      none_more (eqb (least_stake v.stakes) (least_stake v.stakes)) (counted_at t n (read_entry t place (value_read words t place) v)) _ _
      (logged_by_set views i v (after_read t place (value_read words t place) v)
      (read_entry t place (value_read words t place) v) at_i refl stake (least_stake v.stakes) (counted_at t n)) refl
      ∙ own_log (counted_at t n) views i v at_i stake (once stake);
}
  where
    once : HasStake v → stakes_in views (least_stake v.stakes) ≡ 1
    once small = k.logs.each_stake (least_stake v.stakes) ∙
        elim (one_lt (least_stake v.stakes) 16) [ inl y ↦ y.0 | inr n ↦ let z = n.1 in absurd (omega arith) ]

-- a read keeps what the rule says of reads
reads_read : (words : List ℕ) (views : List View) (i : ℕ) (v : View) (t : Title) (place : ℕ) (k : IsKept words views) →
    get_elem? views i ≡ some v → IsUser t v →
    HasStake v → place < content_count t → Reads k.history (byte_words words) views →
    Reads k.history (byte_words words) (views_read words views i v t place)
reads_read words views i v t place k at_i has stake below reads =
    let value = value_read words t place in
    let w = after_read t place value v in
    let e = read_entry t place value v in
    let least = least_stake v.stakes in
    let last = last_entry (least_log v.stakes) in
    let grows : (u : Title) (r : ℕ) → 0 < poisoned_apart views u r → 0 < poisoned_apart (set views i w) u r =
    λ u r some_own. let l = apart_set views i v w at_i (λ n. noted_stakes e v.stakes n stake) u r (omega arith) in omega arith in
    let word = word_read words views i v t place k at_i has stake below in
    record {
      right = right_both k.history (paired_in views) (λ weight. weight_after weight last e) (paired_in (set views i w)) (paired_by views)
          (λ r weight. if eqb least r then weight_after weight last e else 0) (paired_by (set views i w)) (logged_by (set views i w))
          (poisoned_apart (set views i w))
          (right_same k.history (paired_in views) (paired_in views) (paired_by views) (paired_by views) (logged_by views)
          (logged_by (set views i w))
          (poisoned_apart views) (poisoned_apart (set views i w)) reads.right refl (λ own u found given. refl) (λ r own u found given. refl)
          (λ r u n. none_more (eqb least r) (counted_at u n e) _ _ (logged_by_set views i v w e at_i refl stake r (counted_at u n)) refl)
          grows)
          (right_read k.history (byte_words words) v t place value (has_own v t) (has_unclean v t) last least (logged_by (set views i w))
          (poisoned_apart (set views i w))
          (read_last words views i v t place k at_i has stake reads)
          (record {
            freed = word.freed;
            own = word.own;
            ref = λ owned set_bit. elim (word.ref owned set_bit) [ inl y ↦ inl y | inr p ↦ inr (p.0, grows t least p.1) ];
          }))
          (λ weight. paired_set views i v w e at_i refl stake weight)
          (λ r weight. paired_by_set views i v w e at_i refl stake r weight);
      each_view = each_set (IsReader k.history (byte_words words)) (IsReader k.history (byte_words words)) views i v w at_i reads.each_view
          (record {
            waits = λ u found is quiet. let no_look : Some e ≡ Some (Looked u found) = sym (last_noted e v.stakes stake) ∙ is in
                absurd (cc);
            stake = λ some_own. stake_noted e v w refl stake;
          })
          (λ j u ne at_j reader. reader);
    }

-- the core that is shown stays
read_shown : (words : List ℕ) (views : List View) (i : ℕ) (v : View) (t : Title) (place value : ℕ) → get_elem? views i ≡ some v →
    shown words (set views i (after_read t place value v)) ≡ shown words views
read_shown words views i v t place value at_i =
    ap (λ (hs : List (List Piece)). record { words = byte_words words; holdings = hs })
    (map_same pieces_of views i v (after_read t place value v) at_i refl)

-- a read is a load of the core
pub read_event : (words : List ℕ) (views : List View) (i : ℕ) (v : View) (t : Title) (place : ℕ) → IsKept words views →
    get_elem? views i ≡ some v → IsUser t v →
    place < content_count t →
    IsEnabled (Load i (content_offset t place)) (shown words views) ×
    Happens (Load i (content_offset t place)) (shown words views) (shown words (views_read words views i v t place))
read_event words views i v t place k at_i has below = (
  (
    shown_actor words views i v at_i,
    (let z : (content_offset t place) % 8 ≡ 0 = omega arith in z),
    inr (
      t,
      (content_covered (length (byte_words words)) t place
          (k.holders.good.divided.well t (user_in_all words views i v t at_i has)) below).0,
      title_in_core words views i v t at_i (omega arith),
    ),
  ),
  read_shown words views i v t place (value_read words t place) at_i,
)

-- the rule after a read
pub read_keeps : (words : List ℕ) (views : List View) (i : ℕ) (v : View) (t : Title) (place : ℕ) → IsKept words views →
    get_elem? views i ≡ some v → IsUser t v →
    HasStake v → place < content_count t → IsKept words (views_read words views i v t place)
read_keeps words views i v t place k at_i has stake below =
    let value = value_read words t place in
    let w = after_read t place value v in
    let e = read_entry t place value v in
    let held = user_in_all words views i v t at_i has in
    let logged : (weight : Entry → ℕ) → logged_of w weight ≡ logged_of v weight + weight e = λ weight. noted_logs e v.stakes weight stake in
    let more = logged_set views i v w e at_i logged in
    let same : (x : Thing) → total_of (shown words (set views i w)) x ≡ total_of (shown words views) x = λ x. let c =
    total_set words words views i v w at_i x in omega arith in
    let back : (u : Title) → IsTitleHeld (total_of (shown words (set views i w))) u → IsTitleHeld (total_of (shown words views)) u =
    λ u y. let p = same (FreeTitle u) in let q = same (OwnOf u) in let r = same (RefOf u) in omega arith in
    let forth : (u : Title) → IsTitleHeld (total_of (shown words views)) u → IsTitleHeld (total_of (shown words (set views i w))) u =
    λ u y. let p = same (FreeTitle u) in let q = same (OwnOf u) in let r = same (RefOf u) in omega arith in
    record {
      history = k.history;
      list = k.list;
      all = ending e v k.all;
      steps = logging e v ∷ k.steps;
      holders = holders_same (byte_words words) (total_of (shown words views)) _ (idle_in views) (idle_in (set views i w)) (budget_in views)
          (budget_in (set views i w))
          (logged_in views counted) (logged_in (set views i w) counted) k.holders same
          (λ u some_idle. let c = sum_set (λ (z : View). idle_of z u) views i v w at_i in k.holders.known u (omega arith))
          (let b = sum_set (λ (u : View). u.budget) views i v w at_i in omega arith)
          (let m = more counted in omega arith);
      values = values_same (byte_words words) views i v w at_i k.values refl (λ q knows. knows);
      reservations = reservations_count t (byte_words words) (total_of (shown words views)) _ (idle_in views) (budget_in views)
          (logged_in views counted)
          (low_in views) (low_in (set views i w)) _ _ (uncut_in views) (uncut_in (set views i w))
          k.reservations k.holders held back (low_set views i v w at_i refl) (low_raw words views)
          (λ u. more (names u)) (λ u. let m = more (uncuts u) in omega arith);
      named = named_more t (length (byte_words words)) (length (byte_words words)) (total_of (shown words views))
          (total_of (shown words (set views i w))) (low_in views) _ _ (uncut_in views) (uncut_in (set views i w))
          k.named k.reservations k.holders.good.divided held refl (λ u none y. forth u y)
          (λ u. more (names u)) (λ u. let m = more (uncuts u) in omega arith);
      logs = record {
        chain = λ u. chain_other (logged_in views) (logged_in (set views i w)) e u (k.history u) (k.logs.chain u) more refl (λ n. refl)
            (λ p found written. refl) (λ found some_look. absurd (omega arith));
        last = λ u y. k.logs.last u (back u y);
        each_stake = λ n. stakes_set views i v w at_i (λ m. noted_stakes e v.stakes m stake) n ∙ k.logs.each_stake n;
      };
      content = rw (read_shown words views i v t place value at_i) k.content;
      reads = reads_read words views i v t place k at_i has stake below k.reads;
      seen = seen_same (logged_in views) (logged_in (set views i w)) (ahead_in views) (ahead_in (set views i w)) (unseen_in views)
          (unseen_in (set views i w)) k.seen
          (λ u. let m = more (counted_on u) in omega arith)
          (λ u n. let c = sum_set (λ z. ahead_of z u n) views i v w at_i in omega arith)
          (let c = sum_set unseen_of views i v w at_i in let d = logged (unseen_by v.seen) in omega arith);
      lists = lists_grown k.list views i v w at_i k.lists (record {
        keepers = refl;
        leases = refl;
        lists = refl;
        stakes = inr (Read t place value v.since (has_own v t) (has_unclean v t), refl, λ n. refl);
        seen = λ u. omega arith;
        handles = λ u has. inl has;
      }) (k.lists.free_seen i v at_i);
      undone = undone_set views i v w at_i refl (λ u. let m = more (uncuts u) in omega arith) k.undone;
      totals = totals_other words words views i v w e at_i refl stake k.totals (words_stay words) more (λ n. refl) (λ q. refl)
          (λ q. omega arith);
      ordered = order_plain k.all k.list views i v w e at_i refl stake k.logs.each_stake (λ n. refl)
          (λ u word touch. absurd touch) k.ordered;
      filled = filled_entry k.steps k.all k.history (total_of (shown words views))
          (total_of (shown words (set views i w))) views i v w e at_i refl refl
          (record { frees = λ u. refl; keeps = λ u x. refl; fills = λ u. tt })
          (read_in_place words views i v t place k at_i has stake below)
          (others_apart words views i v k at_i stake) (eased_same _ _ same) k.filled;
    }
