-- Steps that only regroup what the views have: if all sums stay, the rule's parts do.
use Rattle.std.proofs.Common.{◌≡◌, ℕ, ◌+◌, ◌<◌, ◌≤◌, ◌&&◌, ◌||◌, List, [], ◌∷◌, ◌++◌, length, set, refl, sym, ◌∙◌, ap, subst, arith, ◌⊎◌, inl, inr}
use Rattle.std.specs.List.{sum_by}
use Rattle.std.specs.Prelude.{nat_lt, if◌then◌else◌}
use Rattle.std.proofs.lemmas.Bool.{cases_lt, lt-ltb, le-ltb}
use Rattle.std.proofs.lemmas.List.Sums.{sum_by_push, sum_by-append, sum_by-le-sum_by}
use mathlib.Core.Option.{some}
use lib.ListN.{get_elem?}
use Rattle.pa_slot.specs.declared.title.Title.{Title}
use Rattle.pa_slot.specs.declared.title.OwnState.TheVariants.{Clean, Poisoned}
use Rattle.pa_slot.specs.Titles.{same_title}
use Rattle.pa_slot.specs.Holdings.{Thing, FreeTitle, OwnOf, OwnAs, RefOf, one}
use Rattle.pa_machine.specs.Events.{total_of}
use Rattle.pa_machine.specs.Trail.{KeepsContent}
use Rattle.pa_region.specs.declared.view.Entry.{Entry}
use Rattle.pa_region.specs.declared.view.OwnTitle.{OwnTitle}
use Rattle.pa_region.specs.declared.view.SeenNumber.{SeenNumber}
use Rattle.pa_region.specs.declared.view.View.{View}
use Rattle.pa_region.specs.Views.{held_of_view, byte_words, shown, idle_of, idle_in, budget_in, low_of, low_in, uncut_in, undone_of, undone_in, stake_of, stakes_in, logged_of, logged_in, ahead_of, ahead_in, unseen_by, unseen_of, own_of, unseen_in, counted, counted_on, names, uncuts}
use Rattle.pa_region.specs.Order.{IsLoggedIn}
use Rattle.pa_region.specs.Filled.{IsSteady}
use Rattle.pa_region.specs.Rule.{Values, Reservations, Logs, IsKept}
use Rattle.pa_region.specs.Lists.{keeper_of, keepers_in, lease_of, leases_in, IsListed, HasSeenFree}
use Rattle.pa_region.specs.Hands.{IsParted, CanTake}
use Rattle.pa_region.specs.Pairs.{paired_of, paired_in, paired_of_by, paired_by, logged_of_by, logged_by}
use Rattle.pa_region.specs.Waiting.{poisoned_of, poisoned_apart, IsReader}
use Rattle.pa_region.proofs.ReadsSame.{reads_over}
use Rattle.pa_region.proofs.Adding.{sum_set, sum_part, one_and}
use Rattle.pa_region.proofs.Pieces.{total_sum, owns_have}
use Rattle.pa_region.proofs.HolderPart.{holders_same}
use Rattle.pa_region.proofs.NamePart.{named_same}
use Rattle.pa_region.proofs.SeenPart.{logged_mono}
use Rattle.pa_region.proofs.SeenJoin.{seen_left, seen_right, unseen_grown}
use Rattle.pa_region.proofs.TotalsPart.{totals_same}
use Rattle.pa_region.proofs.OrderPart.{order_over}
use Rattle.pa_region.proofs.PoisonedOwns.{poisoned_unclean}
use Rattle.pa_region.proofs.StepsPart.{eased_same, filled_over}

-- All views together have the same before and after, but may forget that no Ref is left.
pub record IsRegrouped (before after : List View) : Type 0 where
  pub things : (x : Thing) → sum_by (λ v. held_of_view v x) after ≡ sum_by (λ v. held_of_view v x) before
  pub floors : (b n : ℕ) → low_in after b n ≡ low_in before b n
  pub idle : (t : Title) → idle_in after t ≤ idle_in before t
  pub budget : budget_in after ≡ budget_in before
  pub logs : (weight : Entry → ℕ) → logged_in after weight ≡ logged_in before weight
  pub stakes : (k : ℕ) → stakes_in after k ≡ stakes_in before k
  pub keepers : (k : ℕ) → keepers_in after k ≡ keepers_in before k
  pub leases : (n : ℕ) → leases_in after n ≡ leases_in before n
  pub ahead : (t : Title) (n : ℕ) → ahead_in before t n ≡ 0 → ahead_in after t n ≡ 0
  pub unseen : unseen_in before ≡ 0 → unseen_in after ≡ 0
  pub pairs : (weight : Entry → Entry → ℕ) → paired_in after weight ≡ paired_in before weight
  pub pairs_by : (k : ℕ) (weight : Entry → Entry → ℕ) → paired_by after k weight ≡ paired_by before k weight
  pub logs_by : (k : ℕ) (weight : Entry → ℕ) → logged_by after k weight ≡ logged_by before k weight
  pub poisoned : (t : Title) (k : ℕ) → poisoned_apart before t k ≤ poisoned_apart after t k
  pub undone : (t : Title) → undone_in after t ≡ undone_in before t

-- contents stay if the totals do
content_regrouped : (words : List ℕ) (before after : List View) (last : Title → ℕ) →
    ((x : Thing) → total_of (shown words after) x ≡ total_of (shown words before) x) →
    KeepsContent (shown words before) last → KeepsContent (shown words after) last
content_regrouped words before after last same k = record {
  clean = λ t has. let e = same (OwnAs t Clean) in k.clean t (omega arith);
  beyond = λ t j many has. let e = same (OwnAs t (Poisoned j)) in let f = same (RefOf t) in k.beyond t j (omega arith) (omega arith);
}

-- the rule's parts after such a step
pub kept_regrouped : (words : List ℕ) (before after : List View) (k : IsKept words before) → IsRegrouped before after →
    Values (byte_words words) after →
    ((i : ℕ) (v : View) → get_elem? after i ≡ some v → IsListed k.list v) →
    ((i : ℕ) (v : View) → get_elem? after i ≡ some v → HasSeenFree v) →
    ((i : ℕ) (v : View) → get_elem? after i ≡ some v → IsReader k.history (byte_words words) v) →
    ((i : ℕ) (v : View) → get_elem? after i ≡ some v → IsLoggedIn k.all v) →
    ((i : ℕ) (v : View) → get_elem? after i ≡ some v → IsSteady k.steps v) → IsKept words after
kept_regrouped words before after k g values listed free readers logged steady =
    let same : (x : Thing) → total_of (shown words after) x ≡ total_of (shown words before) x =
    λ x. let a = total_sum words after x in let b = total_sum words before x in let c = g.things x in omega arith in
    let total : total_of (shown words before) ≡ total_of (shown words after) = λ i x. sym (same x) i in
    let logs : logged_in before ≡ logged_in after = λ i weight. sym (g.logs weight) i in
    let low : low_in before ≡ low_in after = λ i b n. sym (g.floors b n) i in
    let stakes : stakes_in before ≡ stakes_in after = λ i n. sym (g.stakes n) i in
    record {
      history = k.history;
      list = k.list;
      all = k.all;
      steps = k.steps;
      holders = holders_same (byte_words words) (total_of (shown words before)) (total_of (shown words after)) (idle_in before)
          (idle_in after) (budget_in before) (budget_in after)
          (logged_in before counted) (logged_in after counted) k.holders same
          (λ u some_idle. let e = g.idle u in k.holders.known u (omega arith)) g.budget (g.logs counted);
      values = values;
      reservations =
          subst (λ total_now. Reservations total_now (low_in after) (λ t. logged_in after (names t)) (uncut_in after)) total
          (subst (λ low_now. Reservations (total_of (shown words before)) low_now (λ t. logged_in after (names t)) (uncut_in after)) low
          (subst (λ (ls : (Entry → ℕ) → ℕ). Reservations (total_of (shown words before)) (low_in before) (λ t. ls (names t))
          (λ t. ls (uncuts t))) logs k.reservations));
      named = named_same (length (byte_words words)) (length (byte_words words)) (total_of (shown words before))
          (total_of (shown words after)) _ _ (uncut_in before) (uncut_in after)
          k.named refl (λ u y. let p = same (FreeTitle u) in let q = same (OwnOf u) in let s = same (RefOf u) in omega arith)
          (λ u. g.logs (names u)) (λ u. g.logs (uncuts u));
      logs =
          subst (λ total_now. Logs k.history (byte_words words) total_now (logged_in after) (stakes_in after)) total
          (subst (λ ls. Logs k.history (byte_words words) (total_of (shown words before)) ls (stakes_in after)) logs
          (subst (λ ss. Logs k.history (byte_words words) (total_of (shown words before)) (logged_in before) ss) stakes k.logs));
      content = content_regrouped words before after _ same k.content;
      reads = reads_over k.history (byte_words words) (byte_words words) before after k.reads g.pairs g.pairs_by g.logs_by
          (λ t n some_own. let e = g.poisoned t n in omega arith) readers;
      seen = record {
        numbers = λ t. g.ahead t (logged_in after (counted_on t)) (ap (ahead_in before t) (g.logs (counted_on t)) ∙ k.seen.numbers t);
        own_logs = g.unseen k.seen.own_logs;
      };
      lists = record {
        each_keeper = λ n. g.keepers n ∙ k.lists.each_keeper n;
        each_lease = λ n. g.leases n ∙ k.lists.each_lease n;
        rises = k.lists.rises;
        makers = k.lists.makers;
        each_view = listed;
        free_seen = free;
      };
      undone = λ t. let a = g.undone t in let b = g.logs (uncuts t) in let c = k.undone t in omega arith;
      totals = totals_same words before after g.logs g.logs_by k.totals;
      ordered = order_over k.all k.list before after k.ordered logged;
      filled = filled_over k.steps k.all k.history (total_of (shown words before)) (total_of (shown words after)) before after
          (eased_same _ _ same) k.filled steady;
    }

-- how many times a view that doesn't have stake k has the title's Own poisoned
abbrev pub apart_of : View → Title → ℕ → ℕ
apart_of v t k = if nat_lt 0 (stake_of v k) then 0 else poisoned_of v t

-- with the stake it counts nothing, and without it all
apart_is : (v : View) (t : Title) (k : ℕ) → ((0 < stake_of v k) × (apart_of v t k ≡ 0)) ⊎
    ((stake_of v k ≡ 0) × (apart_of v t k ≡ poisoned_of v t))
apart_is v t k = elim (cases_lt 0 (stake_of v k)) [
  | inl y ↦ inl (y, rw (lt-ltb 0 (stake_of v k) y) refl)
  | inr n ↦ inr (omega arith, rw (le-ltb 0 (stake_of v k) n) refl)
]

-- parting a view doesn't hide a poisoned Own
apart_parted : (v l r : View) (t : Title) (k : ℕ) → stake_of l k + stake_of r k ≡ stake_of v k →
    poisoned_of l t + poisoned_of r t ≡ poisoned_of v t →
    apart_of v t k ≤ apart_of l t k + apart_of r t k
apart_parted v l r t k stakes poisoned = elim (apart_is v t k) [
  | inl y ↦ let z = y.1 in omega arith
  | inr n ↦
      let n0 = n.0 in let n1 = n.1 in
      elim (apart_is l t k) [
        | inl y ↦ let z = y.0 in absurd (omega arith)
        | inr m ↦ let m1 = m.1 in
            elim (apart_is r t k) [ inl y ↦ let z = y.0 in absurd (omega arith) | inr o ↦ let o1 = o.1 in omega arith ]
      ]
]

-- nor does a join, if the stakes that come find none
apart_joined : (v w both : View) (t : Title) (k : ℕ) → stake_of both k ≡ stake_of v k + stake_of w k →
    poisoned_of both t ≡ poisoned_of v t + poisoned_of w t →
    CanTake v w → apart_of v t k + apart_of w t k ≤ apart_of both t k
apart_joined v w both t k stakes poisoned can = elim (apart_is both t k) [
  | inl y ↦
      let y0 = y.0 in let none = poisoned_unclean w t in let clean = can.clean in
      elim (apart_is w t k) [
        | inl a ↦ let a0 = a.0 in let a1 = a.1 in let z = can.apart k t a0 in
            elim (apart_is v t k) [ inl b ↦ let b1 = b.1 in omega arith | inr b ↦ let b1 = b.1 in omega arith ]
        | inr a ↦ let a0 = a.0 in let a1 = a.1 in
            elim (apart_is v t k) [ inl b ↦ let b1 = b.1 in omega arith | inr b ↦ let b0 = b.0 in absurd (omega arith) ]
      ]
  | inr n ↦
      let n0 = n.0 in let n1 = n.1 in
      elim (apart_is v t k) [
        | inl y ↦ let z = y.0 in absurd (omega arith)
        | inr m ↦ let m1 = m.1 in
            elim (apart_is w t k) [ inl y ↦ let z = y.0 in absurd (omega arith) | inr o ↦ let o1 = o.1 in omega arith ]
      ]
]

-- a sum in which one view is parted
part_sum : (f : View → ℕ) (views : List View) (i : ℕ) (v l r : View) → get_elem? views i ≡ some v → f l + f r ≡ f v →
    sum_by f (set views i l ++ r ∷ []) ≡ sum_by f views
part_sum f views i v l r at_i e =
    let a = sum_by_push f (set views i l) r in
    let b = sum_set f views i v l at_i in
    omega arith

part_less : (f : View → ℕ) (views : List View) (i : ℕ) (v l r : View) → get_elem? views i ≡ some v → f l + f r ≤ f v →
    sum_by f (set views i l ++ r ∷ []) ≤ sum_by f views
part_less f views i v l r at_i e =
    let a = sum_by_push f (set views i l) r in
    let b = sum_set f views i v l at_i in
    omega arith

-- a view is parted, and both parts have seen what it has seen
pub parted_regroups : (views : List View) (i : ℕ) (v l r : View) → get_elem? views i ≡ some v → IsParted v l r → l.seen ≡ v.seen →
    r.seen ≡ v.seen →
    IsRegrouped views (set views i l ++ r ∷ [])
parted_regroups views i v l r at_i p left right = record {
  things = λ x. part_sum (λ u. held_of_view u x) views i v l r at_i (p.things x);
  floors = λ b n. part_sum (λ u. low_of u b n) views i v l r at_i (p.floors b n);
  idle = λ t. part_less (λ u. idle_of u t) views i v l r at_i (p.idle t);
  budget = part_sum (λ (u : View). u.budget) views i v l r at_i p.budget;
  logs = λ weight. part_sum (λ u. logged_of u weight) views i v l r at_i (p.logs weight);
  stakes = λ k. part_sum (λ u. stake_of u k) views i v l r at_i (p.stakes k);
  keepers = λ k. part_sum (λ u. keeper_of u k) views i v l r at_i (p.keepers k);
  leases = λ n. part_sum (λ u. lease_of u n) views i v l r at_i (p.leases n);
  ahead = λ t n none.
      let a = sum_by_push (λ u. ahead_of u t n) (set views i l) r in
      let b = sum_set (λ u. ahead_of u t n) views i v l at_i in
      let c : ahead_of l t n ≡ ahead_of v t n = rw left refl in
      let d : ahead_of r t n ≡ ahead_of v t n = rw right refl in
      let e = sum_part (λ u. ahead_of u t n) views i v at_i in
      omega arith;
  unseen = λ none.
      let same = part_sum unseen_of views i v l r at_i (sums) in
      same ∙ none;
  pairs = λ weight. part_sum (λ u. paired_of u weight) views i v l r at_i (p.pairs weight);
  pairs_by = λ k weight. part_sum (λ u. paired_of_by u k weight) views i v l r at_i (p.pairs_by k weight);
  logs_by = λ k weight. part_sum (λ u. logged_of_by u k weight) views i v l r at_i (p.logs_by k weight);
  poisoned = λ t k.
      let a = sum_by_push (λ u. apart_of u t k) (set views i l) r in
      let b = sum_set (λ u. apart_of u t k) views i v l at_i in
      let c = apart_parted v l r t k (p.stakes k) (p.poisoned t) in
      omega arith;
  undone = λ t. part_sum (λ u. undone_of u t) views i v l r at_i (p.undone t);
}
  where
    sums : unseen_of l + unseen_of r ≡ unseen_of v
    sums = rw (left, right) (p.logs _)

-- a sum in which one view takes over what another has
join_sum : (f : View → ℕ) (views : List View) (i j : ℕ) (v w both spent : View) → get_elem? views i ≡ some v →
    get_elem? (set views i both) j ≡ some w →
    f both ≡ f v + f w → f spent ≡ 0 → sum_by f (set (set views i both) j spent) ≡ sum_by f views
join_sum f views i j v w both spent at_i at_j e none =
    let a = sum_set f views i v both at_i in
    let b = sum_set f (set views i both) j w spent at_j in
    omega arith

join_less : (f : View → ℕ) (views : List View) (i j : ℕ) (v w both spent : View) → get_elem? views i ≡ some v →
    get_elem? (set views i both) j ≡ some w →
    f both ≤ f v + f w → f spent ≡ 0 → sum_by f (set (set views i both) j spent) ≤ sum_by f views
join_less f views i j v w both spent at_i at_j e none =
    let a = sum_set f views i v both at_i in
    let b = sum_set f (set views i both) j w spent at_j in
    omega arith

-- a view that has no Own knows of none that no Ref of it is left
idle_within : (v : View) (t : Title) → idle_of v t ≤ own_of v t
idle_within v t = sum_by-le-sum_by (λ (o : OwnTitle). one (same_title o.title t && (o.idle || o.sealed)))
    (λ (o : OwnTitle). one (same_title o.title t)) v.owns (λ o. one_and (same_title o.title t) (o.idle || o.sealed))

-- Two views are joined: the one has what both had, and has seen what either has seen, and the other is left with
-- nothing.
pub joined_regroups : (views : List View) (i j : ℕ) (v w both spent : View) → get_elem? views i ≡ some v →
    get_elem? (set views i both) j ≡ some w →
    IsParted both v w → ((t : Title) → idle_of both t ≤ idle_of v t + idle_of w t) → IsParted spent spent spent → both.seen ≡ v.seen ++
    w.seen → spent.seen ≡ [] →
    CanTake v w → IsRegrouped views (set (set views i both) j spent)
joined_regroups views i j v w both spent at_i at_j p idle none seen no_note can = record {
  things = λ x. join_sum (λ u. held_of_view u x) views i j v w both spent at_i at_j (sym (p.things x))
      (let z = none.things x in omega arith);
  floors = λ b n. join_sum (λ u. low_of u b n) views i j v w both spent at_i at_j (sym (p.floors b n))
      (let z = none.floors b n in omega arith);
  idle = λ t. join_less (λ u. idle_of u t) views i j v w both spent at_i at_j (idle t) (no_idle t);
  budget = join_sum (λ (u : View). u.budget) views i j v w both spent at_i at_j (sym p.budget) (let z = none.budget in omega arith);
  logs = λ weight. join_sum (λ u. logged_of u weight) views i j v w both spent at_i at_j (sym (p.logs weight))
      (let z = none.logs weight in omega arith);
  stakes = λ k. join_sum (λ u. stake_of u k) views i j v w both spent at_i at_j (sym (p.stakes k)) (let z = none.stakes k in omega arith);
  keepers = λ k. join_sum (λ u. keeper_of u k) views i j v w both spent at_i at_j (sym (p.keepers k))
      (let z = none.keepers k in omega arith);
  leases = λ n. join_sum (λ u. lease_of u n) views i j v w both spent at_i at_j (sym (p.leases n)) (let z = none.leases n in omega arith);
  ahead = λ t n zero.
      let e : ahead_of both t n ≡ ahead_of v t n + ahead_of w t n =
      rw seen (sum_by-append (λ (s : SeenNumber). one (same_title s.title t && nat_lt n s.number)) v.seen w.seen) in
      join_sum (λ u. ahead_of u t n) views i j v w both spent at_i at_j e (rw no_note refl) ∙ zero;
  unseen = λ zero. let l = join_less unseen_of views i j v w both spent at_i at_j less spent_less in omega arith;
  pairs = λ weight. join_sum (λ u. paired_of u weight) views i j v w both spent at_i at_j (sym (p.pairs weight))
      (let z = none.pairs weight in omega arith);
  pairs_by = λ k weight. join_sum (λ u. paired_of_by u k weight) views i j v w both spent at_i at_j (sym (p.pairs_by k weight))
      (let z = none.pairs_by k weight in omega arith);
  logs_by = λ k weight. join_sum (λ u. logged_of_by u k weight) views i j v w both spent at_i at_j (sym (p.logs_by k weight))
      (let z = none.logs_by k weight in omega arith);
  poisoned = λ t k.
      let a = sum_set (λ u. apart_of u t k) views i v both at_i in
      let b = sum_set (λ u. apart_of u t k) (set views i both) j w spent at_j in
      let c = apart_joined v w both t k (sym (p.stakes k)) (sym (p.poisoned t)) can in
      omega arith;
  undone = λ t. join_sum (λ u. undone_of u t) views i j v w both spent at_i at_j (sym (p.undone t)) (let z = none.undone t in omega arith);
}
  where
    no_idle : (t : Title) → idle_of spent t ≡ 0
    no_idle t = omega (arith, idle_within spent t, owns_have spent t, none.things (OwnOf t))

    less : unseen_of both ≤ unseen_of v + unseen_of w
    less =
        let l = p.logs (unseen_by both.seen) in
        let a : logged_of v (unseen_by both.seen) ≤ unseen_of v = rw seen
        (logged_mono v (unseen_by (v.seen ++ w.seen)) (unseen_by v.seen)
        (unseen_grown v.seen (v.seen ++ w.seen) (λ t. seen_left t v.seen w.seen))) in
        let b : logged_of w (unseen_by both.seen) ≤ unseen_of w = rw seen
        (logged_mono w (unseen_by (v.seen ++ w.seen)) (unseen_by w.seen)
        (unseen_grown w.seen (v.seen ++ w.seen) (λ t. seen_right t v.seen w.seen))) in
        omega arith

    spent_less : unseen_of spent ≡ 0
    spent_less = let l = none.logs (unseen_by spent.seen) in omega arith
