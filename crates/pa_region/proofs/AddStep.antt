-- An addition to a totals word keeps the rule.
use Rattle.std.proofs.Common.{◌≡◌, ℕ, ◌+◌, ◌-◌, ◌%◌, ◌<◌, ◌≤◌, Bool, true, false, List, ◌∷◌, length, map, set, refl, sym, ◌∙◌, ap, subst, arith, inl, inr}
use Rattle.std.specs.Prelude.{slice_index, ◌&&◌, nat_lt, if◌then◌else◌}
use Rattle.std.specs.List.{sum_by}
use mathlib.Core.Option.{some}
use lib.ListN.{get_elem?}
use Rattle.std.proofs.lemmas.List.{length-set, get_or-set_same, get_or-set_other}
use lib.Seq.{take-set-le}
use Rattle.std.proofs.lemmas.Bool.{lt-ltb}
use Rattle.std.proofs.lemmas.Bool.Decides.{eqb_tells}
use Rattle.pa_slot.specs.declared.title.Title.{Title}
use Rattle.pa_slot.specs.Holdings.{Piece, Thing, FreeTitle, OwnOf, RefOf, IsTitleHeld}
use Rattle.pa_machine.specs.Events.{total_of}
use Rattle.pa_region.specs.declared.view.Entry.{Entry}
use Rattle.pa_region.specs.declared.view.Entry.TheVariants.{Counted, Looked, Read, Added, Entered, Uncut}
use Rattle.pa_region.specs.declared.view.View.{View}
use Rattle.pa_region.specs.Views.{pieces_of, byte_words, shown, idle_of, idle_in, budget_in, low_in, uncut_in, least_stake, stakes_in, logged_of, logged_in, ahead_of, ahead_in, unseen_by, unseen_of, unseen_in, counted, counted_on, names, uncuts, HasStake}
use Rattle.pa_region.specs.Pairs.{logged_by, least_log}
use Rattle.pa_region.specs.Rule.{IsKept}
use Rattle.pa_region.specs.Totals.{owes_as, added_as, added_to, total_place, Totals, after_add, CanAdd}
use Rattle.pa_region.proofs.Adding.{sum_set, one_lt}
use Rattle.pa_region.proofs.Pieces.{total_set}
use Rattle.pa_region.proofs.HolderPart.{holders_same}
use Rattle.pa_region.proofs.ValuePart.{values_same}
use Rattle.pa_region.proofs.ReservationPart.{reservations_same}
use Rattle.pa_region.proofs.NamePart.{named_same}
use Rattle.pa_region.proofs.LogPart.{chain_other}
use Rattle.pa_region.proofs.SeenPart.{seen_same}
use Rattle.pa_region.proofs.Entering.{noted_logs, noted_stakes, logged_set, logged_grows}
use Rattle.pa_region.proofs.PairSums.{logged_by_set}
use Rattle.pa_region.proofs.Shown.{map_same}
use Rattle.pa_region.proofs.Stays.{low_set, stakes_set, undone_set}
use Rattle.pa_region.proofs.EntryReads.{entry_reads}
use Rattle.pa_region.proofs.SeatStakes.{SameStakes}
use Rattle.pa_region.proofs.ListPart.{lists_grown}
use Rattle.pa_region.proofs.OneLog.{own_log}
use Rattle.pa_region.proofs.ByNumber.{all_most}
use Rattle.pa_region.proofs.OrderPart.{ending, order_plain}
use Rattle.pa_region.proofs.StepsPart.{logging, eased_same, filled_entry}
use Rattle.pa_region.proofs.StepsKept.{others_apart}

-- a store to a totals word leaves the words of the bytes
bytes_beyond : (words : List ℕ) (p x : ℕ) → length words - 16 ≤ p → byte_words (set words p x) ≡ byte_words words
bytes_beyond words p x past = rw (length-set words p x) (take-set-le (length words - 16) words p x past)

-- the stakes are the same
pub add_stakes : (k bytes : ℕ) (v : View) → HasStake v → SameStakes v (after_add k bytes v)
add_stakes k bytes v has n = noted_stakes (Added k bytes) v.stakes n has

-- an addition to word k is one to its kind, and to no other
pub added_here : (k bytes : ℕ) → k < 16 → added_as (k % 4) (Added k bytes) ≡ bytes
added_here k bytes small = elim (eqb_tells (k % 4) (k % 4)) [ inl y ↦ rw (lt-ltb k 16 small, y.0) refl | inr n ↦ absurd (n.1 refl) ]

pub added_beside : (k q bytes : ℕ) → (k % 4 ≡ q → ⊥) → added_as q (Added k bytes) ≡ 0
added_beside k q bytes ne = elim (eqb_tells (k % 4) q) [ inl y ↦ absurd (ne y.1) | inr n ↦ rw n.0 (none (nat_lt k 16)) ]
  where
    none : (b : Bool) → (if b && false then bytes else 0) ≡ 0
    none true = refl
    none false = refl

-- what is added to word k is added to its kind
pub to_as : (k : ℕ) (e : Entry) → k < 16 → added_to k e ≤ added_as (k % 4) e
to_as k (Counted t step found value) small = omega arith
to_as k (Looked t found) small = omega arith
to_as k (Read t place value since owned unclean) small = omega arith
to_as k (Added word bytes) small = elim (eqb_tells word k) [
  | inl y ↦
      let here = subst (λ (n : ℕ). added_as (k % 4) (Added n bytes) ≡ bytes) (sym y.1) (added_here k bytes small) in
      let there : added_to k (Added word bytes) ≡ bytes = rw y.0 refl in
      omega arith
  | inr n ↦ let there : added_to k (Added word bytes) ≡ 0 = rw n.0 refl in omega arith
]
to_as k (Entered keeper made) small = omega arith
to_as k (Uncut t) small = omega arith

-- the steps that were made are at most 65,536, so no sum of a kind passes 2^43
few_bytes : (words : List ℕ) (views : List View) (q : ℕ) → IsKept words views → logged_in views (owes_as q) ≤ 8796093022208
few_bytes words views q r = let b = r.totals.bounded q in let a = r.holders.affords in omega arith

-- what the least stake's logs added is what its own log did
add_logs : (k bytes : ℕ) (words : List ℕ) (views : List View) (i : ℕ) (v : View) → IsKept words views → get_elem? views i ≡ some v →
    CanAdd k bytes v → (r q : ℕ) →
    logged_by (set views i (after_add k bytes v)) r (added_as q) ≤ logged_by (set views i (after_add k bytes v)) r (owes_as q)
add_logs k bytes words views i v kept at_i can r q =
    let stake = can.1 in
    let e = Added k bytes in
    let a = logged_by_set views i v (after_add k bytes v) e at_i refl stake r (added_as q) in
    let b = logged_by_set views i v (after_add k bytes v) e at_i refl stake r (owes_as q) in
    let c = kept.totals.covered r q in
    elim (eqb_tells (least_stake v.stakes) r) [
      | inl y ↦
          let d = rw y.0 at a in
          let f = rw y.0 at b in
          elim (eqb_tells (k % 4) q) [
            | inl z ↦
                let mine = own_log (added_as q) views i v at_i stake once in
                let owed = own_log (owes_as q) views i v at_i stake once in
                let mine_r : logged_by views r (added_as q) ≡ sum_by (added_as q) (least_log v.stakes) = subst
                (λ (n : ℕ). logged_by views n (added_as q) ≡ sum_by (added_as q) (least_log v.stakes)) y.1 mine in
                let owed_r : logged_by views r (owes_as q) ≡ sum_by (owes_as q) (least_log v.stakes) = subst
                (λ (n : ℕ). logged_by views n (owes_as q) ≡ sum_by (owes_as q) (least_log v.stakes)) y.1 owed in
                let enough = subst (λ (n : ℕ). sum_by (added_as n) (least_log v.stakes) + bytes ≤ sum_by (owes_as n) (least_log v.stakes))
                z.1 can.2 in
                let here = subst (λ (n : ℕ). added_as n e ≡ bytes) z.1 (added_here k bytes can.0) in
                omega arith
            | inr n ↦ let none = added_beside k q bytes n.1 in omega arith
          ]
      | inr n ↦ let d = rw n.0 at a in let f = rw n.0 at b in omega arith
    ]
  where
    once : stakes_in views (least_stake v.stakes) ≡ 1
    once =
        let stake = can.1 in
        let e = kept.logs.each_stake (least_stake v.stakes) in
        elim (one_lt (least_stake v.stakes) 16) [ inl y ↦ let z = y.0 in omega arith | inr m ↦ let z = m.1 in absurd (omega arith) ]

-- the sum after an addition is small
add_fits : (k bytes : ℕ) (words : List ℕ) (views : List View) (i : ℕ) (v : View) → IsKept words views → get_elem? views i ≡ some v →
    CanAdd k bytes v →
    logged_in views (added_to k) + bytes ≤ 8796093022208
add_fits k bytes words views i v kept at_i can =
    let stake = can.1 in
    let w = after_add k bytes v in
    let more = logged_set views i v w (Added k bytes) at_i (λ weight. noted_logs (Added k bytes) v.stakes weight stake) in
    let all = all_most (set views i w) (added_as (k % 4)) (owes_as (k % 4))
    (λ n. stakes_set views i v w at_i (λ m. noted_stakes (Added k bytes) v.stakes m stake) n ∙ kept.logs.each_stake n)
    (λ r. add_logs k bytes words views i v kept at_i can r (k % 4)) in
    let a = more (added_as (k % 4)) in
    let b = more (owes_as (k % 4)) in
    let here = added_here k bytes can.0 in
    let to = logged_grows views (added_to k) (added_as (k % 4)) (λ e. to_as k e can.0) in
    let few = few_bytes words views (k % 4) kept in
    omega arith

-- no sum of additions to one word is above that of its kind
pub total_small : (k bytes : ℕ) (words : List ℕ) (views : List View) (i : ℕ) (v : View) → IsKept words views → get_elem? views i ≡ some v →
    CanAdd k bytes v →
    slice_index words (total_place words k) + bytes < 18446744073709551616
total_small k bytes words views i v kept at_i can =
    let fits = add_fits k bytes words views i v kept at_i can in
    let s = kept.totals.sums k can.0 in
    omega arith

-- the sixth part after it
add_totals : (k bytes : ℕ) (words : List ℕ) (views : List View) (i : ℕ) (v : View) → IsKept words views → get_elem? views i ≡ some v →
    CanAdd k bytes v →
    Totals (set words (total_place words k) (slice_index words (total_place words k) + bytes))
    (logged_in (set views i (after_add k bytes v))) (logged_by (set views i (after_add k bytes v)))
add_totals k bytes words views i v kept at_i can = record {
  wide = let w = kept.totals.wide in let l = long in omega arith;
  small = let s = kept.totals.small in let l = long in omega arith;
  sums = λ n small. elim (eqb_tells k n) [
    | inl y ↦ subst (λ (m : ℕ). slice_index after (total_place after m) ≡ logged_in (set views i w) (added_to m)) y.1 here
    | inr m ↦
        let old = kept.totals.sums n small in
        let a = more (added_to n) in
        let z : added_to n (Added k bytes) ≡ 0 = rw m.0 refl in
        let same : slice_index after (total_place after n) ≡ slice_index words (total_place words n) =
        rw long (get_or-set_other words (total_place words k) (total_place words n) x 0 (λ e. m.1 (omega arith))) in
        omega arith
  ];
  covered = λ r q. add_logs k bytes words views i v kept at_i can r q;
  bounded = λ q. let b = kept.totals.bounded q in let a = more (owes_as q) in let c = more counted in omega arith;
}
  where
    x : ℕ
    x = slice_index words (total_place words k) + bytes

    w : View
    w = after_add k bytes v

    after : List ℕ
    after = set words (total_place words k) x

    long : length after ≡ length words
    long = length-set words (total_place words k) x

    more : (weight : Entry → ℕ) → logged_in (set views i w) weight ≡ logged_in views weight + weight (Added k bytes)
    more = logged_set views i v w (Added k bytes) at_i (λ weight. noted_logs (Added k bytes) v.stakes weight can.1)

    here : slice_index after (total_place after k) ≡ logged_in (set views i w) (added_to k)
    here =
        let wide = kept.totals.wide in
        let small = can.0 in
        let old = kept.totals.sums k can.0 in
        let a = more (added_to k) in
        let mine : added_to k (Added k bytes) ≡ bytes = elim (eqb_tells k k) [ inl y ↦ rw y.0 refl | inr n ↦ absurd (n.1 refl) ] in
        let put : slice_index after (total_place after k) ≡ x = rw long (get_or-set_same words (total_place words k) x 0 (omega arith)) in
        omega arith

-- the core that is shown stays
add_shown : (k bytes : ℕ) (words after : List ℕ) (views : List View) (i : ℕ) (v : View) → get_elem? views i ≡ some v →
    byte_words after ≡ byte_words words →
    shown after (set views i (after_add k bytes v)) ≡ shown words views
add_shown k bytes words after views i v at_i same =
    ap (λ (ws : List ℕ). record { words = ws; holdings = map pieces_of (set views i (after_add k bytes v)) }) same
    ∙ ap (λ (hs : List (List Piece)). record { words = byte_words words; holdings = hs })
    (map_same pieces_of views i v (after_add k bytes v) at_i refl)

-- an addition keeps the rule
pub add_keeps : (k bytes : ℕ) (words : List ℕ) (views : List View) (i : ℕ) (v : View) → IsKept words views → get_elem? views i ≡ some v →
    CanAdd k bytes v →
    IsKept (set words (total_place words k) (slice_index words (total_place words k) + bytes)) (set views i (after_add k bytes v))
add_keeps k bytes words views i v r at_i can =
    let stake = can.1 in
    let w = after_add k bytes v in
    let e = Added k bytes in
    let after = set words (total_place words k) (slice_index words (total_place words k) + bytes) in
    let beyond : byte_words after ≡ byte_words words =
    bytes_beyond words (total_place words k) (slice_index words (total_place words k) + bytes) (omega arith) in
    let logged : (weight : Entry → ℕ) → logged_of w weight ≡ logged_of v weight + weight e = λ weight. noted_logs e v.stakes weight stake in
    let more = logged_set views i v w e at_i logged in
    let same : (x : Thing) → total_of (shown after (set views i w)) x ≡ total_of (shown words views) x = λ x. let c =
    total_set words after views i v w at_i x in omega arith in
    let back : (u : Title) → IsTitleHeld (total_of (shown after (set views i w))) u → IsTitleHeld (total_of (shown words views)) u =
    λ u y. let p = same (FreeTitle u) in let q = same (OwnOf u) in let s = same (RefOf u) in omega arith in
    record {
      history = r.history;
      list = r.list;
      all = ending e v r.all;
      steps = logging e v ∷ r.steps;
      holders = rw beyond (holders_same (byte_words words) (total_of (shown words views)) (total_of (shown after (set views i w)))
          (idle_in views) (idle_in (set views i w))
          (budget_in views) (budget_in (set views i w))
          (logged_in views counted) (logged_in (set views i w) counted) r.holders same
          (λ u some_idle. let c = sum_set (λ (z : View). idle_of z u) views i v w at_i in r.holders.known u (omega arith))
          (let b = sum_set (λ (u : View). u.budget) views i v w at_i in omega arith)
          (let m = more counted in omega arith));
      values = rw beyond (values_same (byte_words words) views i v w at_i r.values refl (λ q knows. knows));
      reservations = reservations_same (total_of (shown words views)) (total_of (shown after (set views i w))) (low_in views)
          (low_in (set views i w)) _ _ (uncut_in views)
          (uncut_in (set views i w))
          r.reservations back (low_set views i v w at_i refl) (λ u. let m = more (names u) in omega arith)
          (λ u. let m = more (uncuts u) in omega arith);
      named = rw beyond (named_same (length (byte_words words)) (length (byte_words words)) (total_of (shown words views))
          (total_of (shown after (set views i w))) _ _ (uncut_in views)
          (uncut_in (set views i w))
          r.named refl (λ u y. let p = same (FreeTitle u) in let q = same (OwnOf u) in let s = same (RefOf u) in omega arith)
          (λ u. let m = more (names u) in omega arith) (λ u. let m = more (uncuts u) in omega arith));
      logs = rw beyond (record {
        chain = λ u. chain_other (logged_in views) (logged_in (set views i w)) e u (r.history u) (r.logs.chain u) more refl (λ n. refl)
            (λ p found written. refl)
            (λ found some_look. absurd (omega arith));
        last = λ u y. r.logs.last u (back u y);
        each_stake = λ n. stakes_set views i v w at_i (λ m. noted_stakes e v.stakes m stake) n ∙ r.logs.each_stake n;
      });
      content = rw (add_shown k bytes words after views i v at_i beyond) r.content;
      reads = rw beyond (entry_reads r.history words views i v w e at_i r.reads refl refl stake refl (λ u found look. absurd (cc))
          (λ u n. refl));
      seen = seen_same (logged_in views) (logged_in (set views i w)) (ahead_in views) (ahead_in (set views i w)) (unseen_in views)
          (unseen_in (set views i w)) r.seen
          (λ u. let m = more (counted_on u) in omega arith)
          (λ u n. let c = sum_set (λ z. ahead_of z u n) views i v w at_i in omega arith)
          (let c = sum_set unseen_of views i v w at_i in let d = logged (unseen_by v.seen) in omega arith);
      lists = lists_grown r.list views i v w at_i r.lists
          (record {
            keepers = refl;
            leases = refl;
            lists = refl;
            stakes = inr (e, refl, λ n. refl);
            seen = λ u. omega arith;
            handles = λ u has. inl has;
          }) (r.lists.free_seen i v at_i);
      undone = undone_set views i v w at_i refl (λ u. let m = more (uncuts u) in omega arith) r.undone;
      totals = add_totals k bytes words views i v r at_i can;
      ordered = order_plain r.all r.list views i v w e at_i refl stake r.logs.each_stake (λ n. refl)
          (λ u word touch. absurd touch) r.ordered;
      filled = filled_entry r.steps r.all r.history (total_of (shown words views))
          (total_of (shown after (set views i w))) views i v w e at_i refl refl
          (record { frees = λ u. refl; keeps = λ u x. refl; fills = λ u. tt }) tt (others_apart words views i v r at_i stake)
          (eased_same _ _ same) r.filled;
    }
