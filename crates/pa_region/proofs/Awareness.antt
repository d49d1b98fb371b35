-- What the rule says of one view.
use Rattle.std.proofs.Common.{◌≡◌, ℕ, ◌+◌, ◌<◌, ◌≤◌, List, [], ◌∷◌, ◌++◌, length, set, refl, sym, ◌∙◌, ap, subst, arith, inl, inr, eqb}
use Rattle.std.specs.List.{sum_by}
use Rattle.core.specs.List.{AllByRecursion as Each}
use Rattle.std.proofs.lemmas.List.{set-get_or}
use Rattle.std.proofs.lemmas.List.Sums.{sum_by-cons}
use Rattle.std.proofs.lemmas.Bool.{cases_lt}
use Rattle.std.proofs.lemmas.Bool.Decides.{eqb_tells}
use mathlib.Core.Option.{some}
use lib.ListN.{get_elem?}
use Rattle.atomic_table.specs.Table.{Me, Allows, keeps}
use Rattle.atomic_table.specs.Table.{State as TableState}
use Rattle.atomic_table.proofs.Lists.{set_again}
use Rattle.std.specs.Prelude.{slice_index}
use Rattle.pa_slot.specs.declared.title.Title.{Title}
use Rattle.pa_slot.specs.Count.{number_of}
use Rattle.pa_slot.specs.Titles.{count_word}
use Rattle.pa_slot.specs.Holdings.{RawByte, one, IsTitleHeld}
use Rattle.pa_machine.specs.Events.{total_of}
use Rattle.pa_slot.proofs.Arith.{held_small}
use Rattle.pa_region.specs.declared.view.Made.{Made}
use Rattle.pa_region.specs.declared.view.Keeper.{Keeper}
use Rattle.pa_region.specs.declared.view.SeenList.{SeenList}
use Rattle.pa_region.specs.declared.view.View.{View}
use Rattle.pa_region.specs.Views.{byte_words, shown, free_of, own_of, ref_of, uncut_of, undone_of, stake_of, unseen_of, unseen_in, logged_in, counted_on, HasTitle}
use Rattle.pa_region.specs.Rule.{IsKept}
use Rattle.pa_region.specs.Lists.{keeper_of, lease_of, list_of, list_among, IsBeginning, IsKnownTo, Rises}
use Rattle.pa_region.specs.Aware.{IsAware}
use Rattle.pa_region.proofs.Adding.{sum_part, one_lt, one_eq}
use Rattle.pa_region.proofs.Pieces.{title_held, held_within}
use Rattle.pa_region.proofs.Bytes.{held_in_all}
use Rattle.pa_region.proofs.ValuePart.{raw_once, raw_outside}
use Rattle.pa_region.proofs.Found.{count_found}
use Rattle.pa_region.proofs.Allowed.{free_alone}
use Rattle.pa_region.proofs.LogPart.{reached_number}
use Rattle.pa_region.proofs.SeenPart.{seen_within}
use Rattle.pa_region.proofs.CountLists.{free_word_known}
use Rattle.pa_region.proofs.ListFacts.{each_map, each_both, each_left}
use Rattle.pa_region.proofs.JoinLists.{longer_is, among_beginning, beginnings_order}
use Rattle.pa_region.proofs.Shown.{put_there}
use Rattle.pa_region.proofs.Ends.{all_logs, knows_logs}
use Rattle.pa_region.proofs.OneLog.{covered_of}
use Rattle.pa_region.proofs.OneOrder.{knows_order}

-- one note more makes what is seen of a list no shorter
among_more : (k : ℕ) (n : SeenList) (ns : List SeenList) → length (list_among k ns) ≤ length (list_among k (n ∷ ns))
among_more k n ns = elim (eqb_tells n.keeper k) [
  | inl y ↦ elim (longer_is n.entries (list_among k ns))
      [ inl z ↦ rw (y.0, z.0) omega arith | inr z ↦ let z1 = z.1 in rw (y.0, z.0) omega arith ]
  | inr m ↦ rw m.0 omega arith
]

-- the list of a keeper among notes is no shorter than the first note of that keeper
among_here : (n : SeenList) (ns : List SeenList) → length n.entries ≤ length (list_among n.keeper (n ∷ ns))
among_here n ns = elim (eqb_tells n.keeper n.keeper) [
  | inl y ↦ elim (longer_is n.entries (list_among n.keeper ns))
      [ inl z ↦ let z1 = z.1 in rw (y.0, z.0) omega arith | inr z ↦ rw (y.0, z.0) omega arith ]
  | inr m ↦ absurd (m.1 refl)
]

notes_within : (ns : List SeenList) → Each (λ n. length n.entries ≤ length (list_among n.keeper ns)) ns
notes_within [] = tt
notes_within (n ∷ ns) = (
  among_here n ns,
  each_map (λ x. length x.entries ≤ length (list_among x.keeper ns)) (λ x. length x.entries ≤ length (list_among x.keeper (n ∷ ns))) ns
      (λ x short. let m = among_more x.keeper n ns in omega arith) (notes_within ns),
)

-- each keeper in a list is there
keepers_there : (qs : List Keeper) → Each (λ q. 0 < sum_by (λ (p : Keeper). one (eqb p.number q.number)) qs) qs
keepers_there [] = tt
keepers_there (q ∷ qs) = (
  (let c = sum_by-cons (λ (p : Keeper). one (eqb p.number q.number)) q qs in
      elim (one_eq q.number q.number) [ inl y ↦ let z = y.0 in omega arith | inr n ↦ absurd (n.1 refl) ]),
  each_map (λ x. 0 < sum_by (λ (p : Keeper). one (eqb p.number x.number)) qs)
      (λ x. 0 < sum_by (λ (p : Keeper). one (eqb p.number x.number)) (q ∷ qs)) qs
      (λ x there. let c = sum_by-cons (λ (p : Keeper). one (eqb p.number x.number)) q qs in omega arith) (keepers_there qs),
)

-- a beginning of a list that rises does so too
rises_begins : (a b : List Made) → Rises (a ++ b) → Rises a
rises_begins [] b r = tt
rises_begins (m ∷ a) b r = (each_left (λ later. IsKnownTo later.seen m) a b r.0, rises_begins a b r.1)

-- under the rule each view is aware
pub aware_of : (words : List ℕ) (views : List View) (i : ℕ) (v : View) → IsKept words views → get_elem? views i ≡ some v → IsAware v
aware_of words views i v k at_i = record {
  raw_once = λ b. let w = held_within words views i v at_i (RawByte b) in
      let o = raw_once (byte_words words) (total_of (shown words views)) b k.holders.good in omega arith;
  free_once = λ t. elim (cases_lt 0 (free_of v t)) [
    | inl y ↦
        (count_found t words views i v k at_i (title_held v t (omega arith))).frees
    | inr n ↦ omega arith
  ];
  own_once = λ t. elim (cases_lt 0 (own_of v t)) [
    | inl y ↦ let f = (count_found t words views i v k at_i (title_held v t (omega arith))).owns in
        let s = held_small (count_word (byte_words words) t) in omega arith
    | inr n ↦ omega arith
  ];
  stake_once = λ n. let p = sum_part (λ u. stake_of u n) views i v at_i in let e = k.logs.each_stake n in elim (one_lt n 16)
      [ inl y ↦ let z = y.0 in omega arith | inr m ↦ let z = m.0 in omega arith ];
  stake_small = λ n has. let p = sum_part (λ u. stake_of u n) views i v at_i in let e = k.logs.each_stake n in
      elim (one_lt n 16) [ inl y ↦ y.1 | inr m ↦ let z = m.0 in absurd (omega arith) ];
  keeper_once = λ n. let p = sum_part (λ u. keeper_of u n) views i v at_i in let e = k.lists.each_keeper n in elim (one_lt n 6)
      [ inl y ↦ let z = y.0 in omega arith | inr m ↦ let z = m.0 in omega arith ];
  lease_once = λ n. let p = sum_part (λ u. lease_of u n) views i v at_i in let e = k.lists.each_lease n in omega arith;
  free_alone = λ t free. elim (cases_lt 0 (own_of v t + ref_of v t))
      [ inl y ↦ absurd (free_alone t words views i v k at_i free y) | inr n ↦ omega arith ];
  apart = λ t u b mine other covers inside. k.holders.good.divided.apart t u b (held t mine) (held u other) covers inside;
  raw_apart = λ t b mine covers.
      let w = held_within words views i v at_i (RawByte b) in
      let o = raw_outside (byte_words words) (total_of (shown words views)) b t k.holders.good (held t mine) covers in
      omega arith;
  gone = λ t some_uncut mine. let p = sum_part (λ u. uncut_of u t) views i v at_i in k.reservations.gone t (omega arith) (held t mine);
  undone = λ t some_uncut mine.
      let p = sum_part (λ u. undone_of u t) views i v at_i in
      let logged = k.undone t in
      k.reservations.gone t (omega arith) (held t mine);
  own_logs = let p = sum_part unseen_of views i v at_i in let e = k.seen.own_logs in omega arith;
  free_seen = λ t free.
      let known = ap number_of (free_word_known words views i v t k.holders.good k.values at_i free) in
      let last = ap number_of (k.logs.last t (held t (omega arith))) in
      let n = reached_number (k.history t) (k.logs.chain t).legal in
      let all = (k.logs.chain t).all in
      let within = seen_within views i v (logged_in views) (unseen_in views) at_i k.seen t in
      let s = k.lists.free_seen i v at_i t free in
      omega arith;
  notes = each_both (λ n. IsBeginning n.entries (k.list n.keeper)) (λ n. length n.entries ≤ length (list_among n.keeper v.seen_lists))
      (λ n. IsBeginning n.entries (list_of n.keeper v)) v.seen_lists
      (λ n b short. beginnings_order n.entries (list_of n.keeper v) (k.list n.keeper) b (begins n.keeper) short)
      (k.lists.each_view i v at_i).beginnings (notes_within v.seen_lists);
  own_lists = each_both (λ q. q.entries ≡ k.list q.number) (λ q. 0 < keeper_of v q.number) (λ q. q.entries ≡ list_of q.number v) v.keepers
      (λ q same there. same ∙ sym ((k.lists.each_view i v at_i).whole q.number there)) (k.lists.each_view i v at_i).kept
      (keepers_there v.keepers);
  entered = (k.lists.each_view i v at_i).noticed;
  rises = λ q. rises_begins (list_of q v) (begins q).0 (subst Rises (begins q).1 (k.lists.rises q));
  makers = λ q. each_left (λ m. m.stake < 16) (list_of q v) (begins q).0
      (subst (λ (ms : List Made). Each (λ m. m.stake < 16) ms) (begins q).1 (k.lists.makers q));
  follows = (k.lists.each_view i v at_i).follows;
  handles = (k.lists.each_view i v at_i).handles;
  covered = λ r q. covered_of views i v at_i (k.logs.each_stake) r q k.totals.covered;
  all_logs = knows_logs words views i v k at_i;
  one_order = knows_order words views i v k at_i;
  all_seen = λ every t.
      let within = seen_within views i v (logged_in views) (unseen_in views) at_i k.seen t in
      let same = all_logs views i v k.history (byte_words words) (total_of (shown words views)) at_i k.logs every (counted_on t) in
      omega arith;
}
  where
    held : (t : Title) → HasTitle v t → IsTitleHeld (total_of (shown words views)) t
    held t mine = held_in_all words views i v t at_i (title_held v t mine)

    begins : (q : ℕ) → IsBeginning (list_of q v) (k.list q)
    begins q = among_beginning k.list q v.seen_lists (k.lists.each_view i v at_i).beginnings

-- whatever a step ensures, it also ensures what the rule says of the view after it
pub tells_aware : (slots id place : ℕ) (me : Me (Unit {0}) View) (change : ℕ → ℕ) (then : ℕ → Me (Unit {0}) View → Type 0) →
    Allows (λ (s : TableState (Unit {0}) View). IsKept s.words s.views) slots id me place change then →
    Allows (λ (s : TableState (Unit {0}) View). IsKept s.words s.views) slots id me place change
    (λ word after. then word after × IsAware after.0)
tells_aware slots id place me change then allowed s k homes at_id small =
    let step = allowed s k homes at_id small in (
      step.0,
      step.1,
      step.2,
      step.3,
      (
        step.4,
        aware_of (set s.words place (change (slice_index s.words place))) (set s.views id step.0) id step.0 step.3
            (put_there s.views id me.0 step.0 at_id),
      ),
    )

-- a load that changes nothing
abbrev pub Stays : Me (Unit {0}) View → Me (Unit {0}) View → Type 0
Stays me after = (after.0 ≡ me.0) × (after.1 ≡ me.1)

pub stays_allowed : (slots id place : ℕ) (me : Me (Unit {0}) View) →
    Allows (λ (s : TableState (Unit {0}) View). IsKept s.words s.views) slots id me place (λ n. n) (λ word after. Stays me after)
stays_allowed slots id place me s k homes at_id small = (
  me.0,
  keeps,
  tt,
  subst (λ (ws : List ℕ). IsKept ws (set s.views id me.0)) (sym (set-get_or s.words place 0))
      (subst (λ (vs : List View). IsKept s.words vs) (sym (set_again s.views id me.0 at_id)) k),
  (refl, refl),
)
