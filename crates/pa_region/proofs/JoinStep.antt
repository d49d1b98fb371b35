-- A join keeps the rule.
use Rattle.std.proofs.Common.{◌≡◌, ℕ, ◌+◌, ◌*◌, ◌<◌, ◌≤◌, ◌&&◌, ◌||◌, append-nil, List, [], ◌∷◌, ◌++◌, length, set, refl, sym, ◌∙◌, ap, subst, arith, ◌⊎◌, inl, inr, eqb, ltb, leb}
use Rattle.std.specs.Prelude.{slice_index, if◌then◌else◌}
use Rattle.std.specs.List.{sum_by}
use Rattle.std.proofs.lemmas.List.Sums.{sum_by-append, sum_by-cons}
use Rattle.std.proofs.lemmas.Bool.{cases_lt, lt-ltb, le-ltb, true≢false}
use mathlib.Core.Option.{some}
use lib.ListN.{get_elem?}
use Rattle.pa_slot.specs.declared.title.Title.{Title}
use Rattle.pa_slot.specs.Count.{number_of}
use Rattle.pa_slot.specs.Titles.{same_title, count_place, count_word}
use Rattle.pa_slot.specs.Holdings.{FreePiece, RefPiece, Thing, RawByte, one, amount}
use Rattle.pa_machine.proofs.Parts.{word_covered}
use Rattle.pa_region.specs.declared.view.RawRange.{RawRange}
use Rattle.pa_region.specs.declared.view.OwnTitle.{OwnTitle}
use Rattle.pa_region.specs.declared.view.Made.{Made}
use Rattle.pa_region.specs.declared.view.Stake.{Stake}
use Rattle.pa_region.specs.declared.view.Keeper.{Keeper}
use Rattle.pa_region.specs.declared.view.View.{View}
use Rattle.pa_region.specs.Views.{raw_piece, own_piece, held_of_view, byte_words, Knows, free_of, own_of, ref_of, idle_of, stake_of, seen_of, least_stake}
use Rattle.pa_region.specs.Pairs.{pairs, amount_by}
use Rattle.pa_region.specs.Waiting.{is_poisoned, is_unclean, IsReader}
use Rattle.pa_region.proofs.Adding.{one_eq}
use Rattle.pa_region.proofs.ReadsSame.{reader_handed}
use Rattle.pa_region.specs.Rule.{IsKept}
use Rattle.pa_region.specs.Order.{OneStep, by_stake, IsAlone, IsLoggedIn}
use Rattle.pa_region.specs.Filled.{IsSteady}
use Rattle.pa_region.proofs.PoisonedOwns.{poisoned_unclean}
use Rattle.pa_region.proofs.StepsPart.{steady_handed}
use Rattle.pa_region.specs.Lists.{keeper_of, list_of, made_with, entered_in, IsBeginning, IsKnownTo, IsListed, HasSeenFree}
use Rattle.pa_region.specs.Hands.{CanTake, IsParted, knowing, merged, united, spent_of}
use Rattle.pa_region.proofs.Pieces.{held_split, frees_have}
use Rattle.pa_region.proofs.Bytes.{held_in_all}
use Rattle.pa_region.proofs.ListFacts.{each_map, each_both, each_append}
use Rattle.pa_region.proofs.ListPart.{each_set}
use Rattle.pa_region.proofs.CountLists.{free_word_known}
use Rattle.pa_region.proofs.SeenJoin.{seen_left, seen_right}
use Rattle.pa_region.proofs.JoinLists.{among_append, among_beginning, beginning_whole, beginnings_order, made_between}
use Rattle.pa_region.proofs.Merging.{knowing_knows, knows_knowing, merged_long, merged_at}
use Rattle.pa_region.proofs.Regroup.{joined_regroups, kept_regrouped}

-- the view of both has what each has
united_held : (v w : View) (x : Thing) → held_of_view (united v w) x ≡ held_of_view v x + held_of_view w x
united_held v w x =
    let a = held_split (united v w) x in let b = held_split v x in let c = held_split w x in
    let r = sum_by-append (λ r. amount x (raw_piece r)) v.raws w.raws in
    let f = sum_by-append (λ t. amount x (FreePiece t)) v.frees w.frees in
    let o = sum_by-append (λ o. amount x (own_piece o)) v.owns w.owns in
    let s = sum_by-append (λ t. amount x (RefPiece t)) v.refs w.refs in
    omega arith

united_idle : (v w : View) (t : Title) → idle_of (united v w) t ≡ idle_of v t + idle_of w t
united_idle v w t = sum_by-append (λ (o : OwnTitle). one (same_title o.title t && (o.idle || o.sealed))) v.owns w.owns

pub united_parts : (v w : View) → IsParted (united v w) v w
united_parts v w = record {
  things = λ x. sym (united_held v w x);
  floors = λ b n. sym (sum_by-append (λ (r : RawRange). one ((leb r.start b && ltb b (r.start + r.len)) && leb r.floor n)) v.raws w.raws);
  idle = λ t. let e = united_idle v w t in omega arith;
  budget = refl;
  logs = λ weight. sym (sum_by-append (λ (s : Stake). sum_by weight s.log) v.stakes w.stakes);
  stakes = λ k. sym (sum_by-append (λ (s : Stake). one (eqb s.number k)) v.stakes w.stakes);
  keepers = λ k. sym (sum_by-append (λ (q : Keeper). one (eqb q.number k)) v.keepers w.keepers);
  leases = λ n.
      let a = sum_by-append (λ x. one (eqb x n)) v.leases.single w.leases.single in
      let b = sum_by-append (λ f. one (leb f n)) v.leases.from w.leases.from in
      omega arith;
  pairs = λ weight. sym (sum_by-append (λ (s : Stake). pairs weight s.log) v.stakes w.stakes);
  pairs_by = λ k weight. sym (sum_by-append (amount_by k (pairs weight)) v.stakes w.stakes);
  logs_by = λ k weight. sym (sum_by-append (amount_by k (sum_by weight)) v.stakes w.stakes);
  poisoned = λ t. sym (sum_by-append (λ (o : OwnTitle). one (same_title o.title t && is_poisoned o.state)) v.owns w.owns);
  unclean = sym (sum_by-append (λ (o : OwnTitle). one (is_unclean o.state)) v.owns w.owns);
  undone = λ t. sym (sum_by-append (λ u. one (same_title u t)) v.uncut w.uncut);
}

-- the least stake of both isn't above that of one
pub least_both : (ss more : List Stake) → least_stake (ss ++ more) ≤ least_stake ss
least_both [] more = least_small more
  where
    least_small : (xs : List Stake) → least_stake xs ≤ 16
    least_small [] = omega arith
    least_small (x ∷ xs) = let again = least_small xs in omega arith
least_both (s ∷ ss) more = let again = least_both ss more in omega arith

-- a view with nothing
spent_parts : (w : View) → IsParted (spent_of w) (spent_of w) (spent_of w)
spent_parts w = record {
  things = λ x. refl;
  floors = λ b n. refl;
  idle = λ t. omega arith;
  budget = refl;
  logs = λ weight. refl;
  stakes = λ k. refl;
  keepers = λ k. refl;
  leases = λ n. refl;
  pairs = λ weight. refl;
  pairs_by = λ k weight. refl;
  logs_by = λ k weight. refl;
  poisoned = λ t. refl;
  unclean = refl;
  undone = λ t. refl;
}

-- a word that the view of both knows, only one view knows
united_knows : (v w : View) (q : ℕ) → Knows (united v w) q → Knows v q ⊎ Knows w q
united_knows v w q (inl raw) =
    let e = united_held v w (RawByte (8 * q)) in
    elim (cases_lt 0 (held_of_view v (RawByte (8 * q)))) [ inl y ↦ inl (inl y) | inr n ↦ inr (inl (omega arith)) ]
united_knows v w q (inr (inl free)) =
    let e = sum_by-append (λ u. one (same_title u free.0)) v.frees w.frees in
    let has = free.1 in
    elim (cases_lt 0 (free_of v free.0)) [
      | inl y ↦ inl (inr (inl (free.0, y, free.2)))
      | inr n ↦
          inr (inr (inl (free.0, omega arith, free.2)))
    ]
united_knows v w q (inr (inr own)) =
    let e = sum_by-append (λ (o : OwnTitle). one (same_title o.title own.0)) v.owns w.owns in
    let has = own.1 in
    elim (cases_lt 0 (sum_by (λ (o : OwnTitle). one (same_title o.title own.0)) v.owns)) [
      | inl y ↦ inl (inr (inr (own.0, y, own.2)))
      | inr n ↦ inr (inr (inr (own.0, omega arith, own.2)))
    ]

-- the words of both are the words
united_values : (words : List ℕ) (v w : View) → length v.words ≡ length w.words →
    ((q : ℕ) → Knows v q → slice_index v.words q ≡ slice_index words q) →
    ((q : ℕ) → Knows w q → slice_index w.words q ≡ slice_index words q) → (q : ℕ) → Knows (united v w) q →
    slice_index (united v w).words q ≡ slice_index words q
united_values words v w long mine other q knows =
    let at_q = subst (λ (n : ℕ). slice_index (merged v 0 v.words w.words) q ≡
    (if ltb 0 (knowing v n) then slice_index v.words q else slice_index w.words q)) (let z : 0 + q ≡ q = omega arith in z)
    (merged_at v 0 v.words w.words q long) in
    elim (cases_lt 0 (knowing v q)) [
      | inl y ↦ at_q ∙ rw (lt-ltb 0 (knowing v q) y) (mine q (knowing_knows v q y))
      | inr n ↦ at_q ∙ rw (le-ltb 0 (knowing v q) n)
          (other q (elim (united_knows v w q knows) [ inl z ↦ (let k = knows_knowing v q z in absurd (omega arith)) | inr z ↦ z ]))
    ]

-- a fact of each view, when two are joined
pub each_joined : (P : View → Type 0) (views : List View) (i j : ℕ) (v w both spent : View) → get_elem? views i ≡ some v →
    get_elem? (set views i both) j ≡ some w →
    ((m : ℕ) (u : View) → get_elem? views m ≡ some u → P u) → P both → P spent → (m : ℕ) (u : View) →
    get_elem? (set (set views i both) j spent) m ≡ some u → P u
each_joined P views i j v w both spent at_i at_j before here rest =
    each_set P (set views i both) j w spent at_j
    (λ m u at_m ne. each_set P views i v both at_i (λ n x at_n other. before n x at_n) here m u at_m) rest

-- keepers' lists of both
module _ (list : ℕ → List Made) (v w : View) (l : IsListed list v) (r : IsListed list w) where
  both_begins : (k : ℕ) → IsBeginning (list_of k (united v w)) (list k)
  both_begins k = among_beginning list k (v.seen_lists ++ w.seen_lists)
      (each_append (λ n. IsBeginning n.entries (list n.keeper)) v.seen_lists w.seen_lists l.beginnings r.beginnings)

  left_begins : (k : ℕ) → IsBeginning (list_of k v) (list_of k (united v w))
  left_begins k = beginnings_order (list_of k v) (list_of k (united v w)) (list k) (among_beginning list k v.seen_lists l.beginnings)
      (both_begins k) (among_append k v.seen_lists w.seen_lists).first

  right_begins : (k : ℕ) → IsBeginning (list_of k w) (list_of k (united v w))
  right_begins k = beginnings_order (list_of k w) (list_of k (united v w)) (list k) (among_beginning list k w.seen_lists r.beginnings)
      (both_begins k) (among_append k v.seen_lists w.seen_lists).second

  pub united_listed : IsListed list (united v w)
  united_listed = record {
    beginnings = each_append (λ n. IsBeginning n.entries (list n.keeper)) v.seen_lists w.seen_lists l.beginnings r.beginnings;
    whole = λ k has.
        let e = (united_parts v w).keepers k in
        let longest = among_append k v.seen_lists w.seen_lists in
        let f = longest.first in let s = longest.second in
        beginning_whole (list_of k (united v w)) (list k) (both_begins k) (elim (cases_lt 0 (keeper_of v k)) [
          | inl y ↦ let a : length (list_of k v) ≡ length (list k) = ap (λ (ms : List Made). length ms) (l.whole k y) in omega arith
          | inr n ↦ let a : length (list_of k w) ≡ length (list k) = ap (λ (ms : List Made). length ms) (r.whole k (omega arith)) in
              omega arith
        ]);
    kept = each_append (λ (q : Keeper). q.entries ≡ list q.number) v.keepers w.keepers l.kept r.kept;
    made = λ k. each_append (λ (s : Stake). made_with s.number (list k) ≡ entered_in k s.log) v.stakes w.stakes (l.made k) (r.made k);
    noticed = λ k. each_append (λ (s : Stake). made_with s.number (list_of k (united v w)) ≡ entered_in k s.log) v.stakes w.stakes
        (each_both (λ (s : Stake). made_with s.number (list k) ≡ entered_in k s.log)
        (λ (s : Stake). made_with s.number (list_of k v) ≡ entered_in k s.log)
        (λ (s : Stake). made_with s.number (list_of k (united v w)) ≡ entered_in k s.log) v.stakes
        (λ s all some. sym (made_between s.number (list_of k v) (list_of k (united v w)) (list k) (left_begins k) (both_begins k)
        (some ∙ sym all)) ∙ some) (l.made k) (l.noticed k))
        (each_both (λ (s : Stake). made_with s.number (list k) ≡ entered_in k s.log)
        (λ (s : Stake). made_with s.number (list_of k w) ≡ entered_in k s.log)
        (λ (s : Stake). made_with s.number (list_of k (united v w)) ≡ entered_in k s.log) w.stakes
        (λ s all some. sym (made_between s.number (list_of k w) (list_of k (united v w)) (list k) (right_begins k) (both_begins k)
        (some ∙ sym all)) ∙ some) (r.made k) (r.noticed k));
    follows = λ k. elim (among_append k v.seen_lists w.seen_lists).either [
      | inl y ↦ rw y (each_map (IsKnownTo v.seen) (IsKnownTo (v.seen ++ w.seen)) (list_of k v)
          (λ m known t. let a = known t in let b = seen_left t v.seen w.seen in omega arith) (l.follows k))
      | inr n ↦ rw n (each_map (IsKnownTo w.seen) (IsKnownTo (v.seen ++ w.seen)) (list_of k w)
          (λ m known t. let a = known t in let b = seen_right t v.seen w.seen in omega arith) (r.follows k))
    ];
    handles = λ t has.
        let o = sum_by-append (λ (x : OwnTitle). one (same_title x.title t)) v.owns w.owns in
        let f = sum_by-append (λ u. one (same_title u t)) v.refs w.refs in
        elim (cases_lt 0 (own_of v t + ref_of v t)) [
          | inl y ↦ let a = l.handles t y in let b = seen_left t v.seen w.seen in omega arith
          | inr n ↦ let a = r.handles t (omega arith) in let b = seen_right t v.seen w.seen in omega arith
        ];
  }

-- of a view with nothing
spent_listed : (list : ℕ → List Made) (w : View) → IsListed list (spent_of w)
spent_listed list w = record {
  beginnings = tt;
  whole = λ k has. absurd (omega arith);
  kept = tt;
  made = λ k. tt;
  noticed = λ k. tt;
  follows = λ k. tt;
  handles = λ t has. absurd (omega arith);
}

spent_knows : (w : View) (q : ℕ) → Knows (spent_of w) q → ⊥
spent_knows w q (inl raw) = absurd (omega arith)
spent_knows w q (inr (inl free)) = let h = free.1 in absurd (omega arith)
spent_knows w q (inr (inr own)) = let h = own.1 in absurd (omega arith)

-- a view that has no stake of any number has none
pub no_stakes : (ss : List Stake) → ((k : ℕ) → sum_by (λ (s : Stake). one (eqb s.number k)) ss ≡ 0) → ss ≡ []
no_stakes [] none = refl
no_stakes (s ∷ ss) none =
    let c = sum_by-cons (λ (x : Stake). one (eqb x.number s.number)) s ss in
    let z = none s.number in
    elim (one_eq s.number s.number) [ inl y ↦ let e = y.0 in absurd (omega arith) | inr n ↦ absurd (n.1 refl) ]

-- a view that gets stakes has no poisoned Own, so two together find the steps steady
united_steady : (steps : List OneStep) (v w : View) → CanTake v w → IsSteady steps v → IsSteady steps (united v w)
united_steady steps v w can s = record {
  waits = λ t found is quiet. absurd (true≢false quiet);
  near = λ t did some_own.
      let e = sum_by-append (λ (o : OwnTitle). one (same_title o.title t && is_poisoned o.state)) v.owns w.owns in
      let l = poisoned_unclean w t in
      let z = can.clean in
      let none : w.stakes ≡ [] =
      no_stakes w.stakes (λ k. elim (cases_lt 0 (stake_of w k))
      [ inl y ↦ let c = can.apart k t y in absurd (omega arith) | inr n ↦ omega arith ]) in
      subst (λ (ss : List Stake). IsAlone (least_stake ss) t steps)
      (sym (ap (λ (ss : List Stake). v.stakes ++ ss) none ∙ append-nil v.stakes)) (s.near t did (omega arith));
}

-- a join keeps the rule
pub join_keeps : (words : List ℕ) (views : List View) (i j : ℕ) (v w : View) → IsKept words views → get_elem? views i ≡ some v →
    get_elem? views j ≡ some w → (j ≡ i → ⊥) →
    get_elem? (set views i (united v w)) j ≡ some w → CanTake v w → IsKept words (set (set views i (united v w)) j (spent_of w))
join_keeps words views i j v w k at_i was_j ne at_j can =
    let both = united v w in
    let spent = spent_of w in
    let long : length v.words ≡ length w.words = k.values.long i v at_i ∙ sym (k.values.long j w was_j) in
    let known : (q : ℕ) → Knows both q → slice_index both.words q ≡ slice_index (byte_words words) q =
    united_values (byte_words words) v w long (λ q knows. k.values.known i q v at_i knows) (λ q knows. k.values.known j q w was_j knows) in
    kept_regrouped words views (set (set views i both) j spent) k
    (joined_regroups views i j v w both spent at_i at_j (united_parts v w) (λ t. let e = united_idle v w t in omega arith)
    (spent_parts w) refl refl can)
    (record {
      long = each_joined (λ u. length u.words ≡ length (byte_words words)) views i j v w both spent at_i at_j k.values.long
          (merged_long v 0 v.words w.words long ∙ k.values.long i v at_i) (k.values.long j w was_j);
      known = λ m q u at_m. each_joined (λ u. Knows u q →
          slice_index u.words q ≡ slice_index (byte_words words) q) views i j v w both spent at_i at_j
          (λ n x at_n. k.values.known n q x at_n) (known q) (λ knows. absurd (spent_knows w q knows)) m u at_m;
    })
    (each_joined (IsListed k.list) views i j v w both spent at_i at_j k.lists.each_view
    (united_listed k.list v w (k.lists.each_view i v at_i) (k.lists.each_view j w was_j)) (spent_listed k.list w))
    (each_joined HasSeenFree views i j v w both spent at_i at_j k.lists.free_seen
    (λ t free. united_free t known (elim (cases_lt 0 (free_of v t)) [
      | inl y ↦ inl y
      | inr n ↦ let e = sum_by-append (λ u. one (same_title u t)) v.frees w.frees in inr (omega arith)
    ]) free)
    (λ t free. absurd (omega arith)))
    (each_joined (IsReader k.history (byte_words words)) views i j v w both spent at_i at_j k.reads.each_view
    (reader_handed k.history (byte_words words) both refl
    (λ some_own.
    let e = (united_parts v w).unclean in let z = can.clean in
    let has = (k.reads.each_view i v at_i).stake (omega arith) in
    let l = least_both v.stakes w.stakes in
    omega arith))
    (reader_handed k.history (byte_words words) spent refl (λ some_own. absurd (omega arith))))
    (each_joined (IsLoggedIn k.all) views i j v w both spent at_i at_j k.ordered.logs
    (each_append (λ (s : Stake). s.log ≡ by_stake s.number k.all) v.stakes w.stakes (k.ordered.logs i v at_i) (k.ordered.logs j w was_j))
    tt)
    (each_joined (IsSteady k.steps) views i j v w both spent at_i at_j k.filled.each_view
    (united_steady k.steps v w can (k.filled.each_view i v at_i))
    (steady_handed k.steps spent refl (λ t. refl)))
  where
    free_place : (m : ℕ) (u : View) (t : Title) → get_elem? views m ≡ some u → 0 < free_of u t →
        count_word u.words t ≡ count_word (byte_words words) t
    free_place m u t at_m free = free_word_known words views m u t k.holders.good k.values at_m free

    united_free : (t : Title) → ((q : ℕ) → Knows (united v w) q → slice_index (united v w).words q ≡ slice_index (byte_words words) q) →
        (0 < free_of v t) ⊎ (0 < free_of w t) → 0 < free_of (united v w) t →
        number_of (count_word (united v w).words t) ≤ seen_of (united v w) t
    united_free t known whose free =
        let a = seen_left t v.seen w.seen in
        let b = seen_right t v.seen w.seen in
        elim whose [
          | inl y ↦
              let s = k.lists.free_seen i v at_i t y in
              let e = here i v at_i y in
              omega arith
          | inr y ↦
              let s = k.lists.free_seen j w was_j t y in
              let e = here j w was_j y in
              omega arith
        ]
      where
        here : (m : ℕ) (u : View) → get_elem? views m ≡ some u → 0 < free_of u t →
            number_of (count_word (united v w).words t) ≡ number_of (count_word u.words t)
        here m u at_m mine =
            let f = frees_have u t in
            let held = held_in_all words views m u t at_m (omega arith) in
            let covers = word_covered (length (byte_words words)) t (count_place t) (k.holders.good.divided.well t held)
            (omega arith, omega arith) in
            ap number_of (known (count_place t) (inr (inl (t, free, covers))) ∙ sym (free_place m u t at_m mine))
