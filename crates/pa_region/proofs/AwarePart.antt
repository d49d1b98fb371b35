-- What the rule says of one view is true of each part of it that a hand makes.
use Rattle.std.proofs.Common.{◌≡◌, ℕ, ◌+◌, ◌<◌, ◌≤◌, Bool, true, false, List, [], ◌∷◌, length, refl, sym, ◌∙◌, ap, subst, arith, ◌⊎◌, inl, inr, eqb}
use Rattle.std.specs.Prelude.{not, cond, if◌then◌else◌}
use Rattle.std.specs.List.{sum_by, filter}
use Rattle.std.proofs.lemmas.List.Sums.{sum_by-cons}
use Rattle.std.proofs.lemmas.Bool.{cases_lt, cases_Bool}
use Rattle.std.proofs.lemmas.Bool.Decides.{eqb_tells}
use Rattle.pa_slot.specs.declared.title.Title.{Title}
use Rattle.pa_slot.specs.Count.{number_of}
use Rattle.pa_slot.specs.Titles.{IsWellFormed, poison}
use Rattle.pa_slot.specs.Holdings.{Thing, RawByte, FreeTitle, OwnOf, RefOf, one}
use Rattle.pa_region.specs.declared.view.Entry.{Entry}
use Rattle.pa_region.specs.declared.view.Stake.{Stake}
use Rattle.pa_region.specs.declared.view.Keeper.{Keeper}
use Rattle.pa_region.specs.declared.view.View.{View}
use Rattle.pa_region.specs.Views.{held_of_view, free_of, own_of, ref_of, stake_of, logged_of, names, uncuts, undone_of, unseen_by, HasTitle, HasEveryStake}
use Rattle.pa_region.specs.History.{IsChained}
use Rattle.pa_region.specs.Contents.{content_at_number}
use Rattle.pa_region.specs.Pairs.{pairs, amount_by, logged_of_by}
use Rattle.pa_region.specs.Waiting.{gave_no_poison, quiet_read, poisoned_of, IsFreedElsewhere}
use Rattle.pa_region.specs.AllReads.{HasAllLogs}
use Rattle.pa_region.specs.Order.{HasOneOrder}
use Rattle.pa_region.specs.Lists.{keeper_of, lease_of, list_of, made_with, entered_in}
use Rattle.pa_region.specs.Hands.{Parcel, CanHand, left_after, given_after}
use Rattle.pa_region.specs.Totals.{owes_as, added_as}
use Rattle.pa_region.specs.Aware.{IsAware}
use Rattle.pa_region.proofs.Pieces.{frees_have, owns_have, refs_have}
use Rattle.pa_region.proofs.HandStep.{each_filter, hand_parts, given_clean}
use Rattle.pa_region.proofs.JoinStep.{no_stakes}
use Rattle.pa_region.proofs.PoisonedOwns.{poisoned_unclean}
use Rattle.pa_region.proofs.OrderPart.{order_of_view}

-- w has a share of what v has: it holds no more, has some of its stakes and keepers, and knows and has seen the same
record IsShareOf (v w : View) : Type 0 where
  things : (x : Thing) → held_of_view w x ≤ held_of_view v x
  leases : (n : ℕ) → lease_of w n ≤ lease_of v n
  stakes : (k : ℕ) → stake_of w k ≤ stake_of v k
  keepers : (k : ℕ) → keeper_of w k ≤ keeper_of v k
  logs : (weight : Entry → ℕ) → logged_of w weight ≤ logged_of v weight
  some_stakes : (test : ℕ → Bool) × (w.stakes ≡ filter (λ (s : Stake). test s.number) v.stakes)
  some_keepers : (test : ℕ → Bool) × (w.keepers ≡ filter (λ (q : Keeper). test q.number) v.keepers)
  covered : (r q : ℕ) → logged_of_by v r (added_as q) ≤ logged_of_by v r (owes_as q) →
      logged_of_by w r (added_as q) ≤ logged_of_by w r (owes_as q)
  whole : HasEveryStake w → w.stakes ≡ v.stakes
  words : w.words ≡ v.words
  seen : w.seen ≡ v.seen
  lists : w.seen_lists ≡ v.seen_lists
  undone : (t : Title) → undone_of w t ≤ undone_of v t
  poisoned : HasEveryStake w → (t : Title) → poisoned_of v t ≤ poisoned_of w t

-- two views with the same stakes know the same of all logs
same_logs : (v w : View) → w.stakes ≡ v.stakes → w.words ≡ v.words → HasAllLogs v → HasAllLogs w
same_logs v w e f a = record {
  history = a.history;
  chain = λ t. subst (λ (ss : List Stake). IsChained (λ weight. sum_by (λ (s : Stake). sum_by weight s.log) ss) t (a.history t)) (sym e)
      (a.chain t);
  well = λ t mine. subst (λ (ws : List ℕ). IsWellFormed (length ws) t) (sym f) (a.well t (named t mine));
  one_name = λ t u mine other. a.one_name t u (named t mine) (named u other);
  reads = record {
    freed = subst (λ (ss : List Stake). sum_by (λ (s : Stake). pairs gave_no_poison s.log) ss ≡ 0) (sym e) a.reads.freed;
    own = λ t found value bit has.
        a.reads.own t found value bit
        (subst (λ (ss : List Stake). 0 < sum_by (λ (s : Stake). pairs (quiet_read true t found value) s.log) ss) e has);
    ref = λ r t found value bit has.
        subst (λ (ss : List Stake). (value ≡ content_at_number (number_of found) (a.history t))
        ⊎ ((value ≡ poison) × IsFreedElsewhere (λ k weight. sum_by (amount_by k (sum_by weight)) ss) (a.history t) t r (number_of found)))
        (sym e)
        (a.reads.ref r t found value bit
        (subst (λ (ss : List Stake). 0 < sum_by (amount_by r (pairs (quiet_read false t found value))) ss) e has));
  };
}
  where
    named : (t : Title) → 0 < logged_of w (names t) → 0 < logged_of v (names t)
    named t mine = subst (λ (ss : List Stake). 0 < sum_by (λ (s : Stake). sum_by (names t) s.log) ss) e mine

-- two views with the same stakes that have seen the same of the lists know the same order
same_order : (v w : View) → w.stakes ≡ v.stakes → w.seen_lists ≡ v.seen_lists → ((t : Title) → poisoned_of v t ≤ poisoned_of w t) →
    HasOneOrder v → HasOneOrder w
same_order v w stakes lists poisoned o = record {
  all = o.all;
  ordered = order_of_view o.all v w stakes lists o.ordered;
  steps = o.steps;
  logged = o.logged;
  placed = o.placed;
  freed = λ t none. o.freed t (let l = poisoned t in omega arith);
}

-- what is true of a view is true of a view that has a share of it
share_aware : (v w : View) → IsShareOf v w → IsAware v → IsAware w
share_aware v w h a = record {
  raw_once = λ b. let e = h.things (RawByte b) in let o = a.raw_once b in omega arith;
  free_once = λ t. let e = frees t in let o = a.free_once t in omega arith;
  own_once = λ t. let e = owns t in let o = a.own_once t in omega arith;
  stake_once = λ k. let e = h.stakes k in let o = a.stake_once k in omega arith;
  stake_small = λ k has. a.stake_small k (let e = h.stakes k in omega arith);
  keeper_once = λ k. let e = h.keepers k in let o = a.keeper_once k in omega arith;
  lease_once = λ n. let e = h.leases n in let o = a.lease_once n in omega arith;
  free_alone = λ t free. let f = frees t in let o = owns t in let r = refs t in let z = a.free_alone t (omega arith) in omega arith;
  apart = λ t u b mine other. a.apart t u b (title t mine) (title u other);
  raw_apart = λ t b mine covers. let e = h.things (RawByte b) in let z = a.raw_apart t b (title t mine) covers in omega arith;
  gone = λ t some_uncut mine. a.gone t (let e = h.logs (uncuts t) in omega arith) (title t mine);
  undone = λ t some_uncut mine. a.undone t (let e = h.undone t in omega arith) (title t mine);
  own_logs = let e = h.logs (unseen_by v.seen) in let z = a.own_logs in rw h.seen (omega arith);
  free_seen = λ t free. rw (h.words, h.seen) (a.free_seen t (let f = frees t in omega arith));
  notes = rw h.lists a.notes;
  own_lists = rw (h.lists, h.some_keepers.1)
      (each_filter (λ (q : Keeper). q.entries ≡ list_of q.number v) (λ (q : Keeper). h.some_keepers.0 q.number) v.keepers a.own_lists);
  entered = λ k. rw (h.lists, h.some_stakes.1)
      (each_filter (λ (s : Stake). made_with s.number (list_of k v) ≡ entered_in k s.log) (λ (s : Stake). h.some_stakes.0 s.number) v.stakes
      (a.entered k));
  rises = λ k. rw h.lists (a.rises k);
  makers = λ k. rw h.lists (a.makers k);
  follows = λ k. rw (h.lists, h.seen) (a.follows k);
  handles = λ t has. rw h.seen (a.handles t (let o = owns t in let r = refs t in omega arith));
  covered = λ r q. h.covered r q (a.covered r q);
  all_logs = λ every. same_logs v w (h.whole every) h.words (a.all_logs (back every));
  one_order = λ every. same_order v w (h.whole every) h.lists (h.poisoned every) (a.one_order (back every));
  all_seen = λ every t. rw (h.seen, h.whole every) (a.all_seen (back every) t);
}
  where
    frees : (t : Title) → free_of w t ≤ free_of v t
    frees t = let e = h.things (FreeTitle t) in let x = frees_have v t in let y = frees_have w t in omega arith

    owns : (t : Title) → own_of w t ≤ own_of v t
    owns t = let e = h.things (OwnOf t) in let x = owns_have v t in let y = owns_have w t in omega arith

    refs : (t : Title) → ref_of w t ≤ ref_of v t
    refs t = let e = h.things (RefOf t) in let x = refs_have v t in let y = refs_have w t in omega arith

    title : (t : Title) → HasTitle w t → HasTitle v t
    title t has = let f = frees t in let o = owns t in let r = refs t in omega arith

    back : HasEveryStake w → HasEveryStake v
    back every k small = let e = h.stakes k in let o = every k small in omega arith

-- all members of a list pass a test if none passes the other
filter_all : (test other : Stake → Bool) (ss : List Stake) → ((s : Stake) → other s ≡ not (test s)) → filter other ss ≡ [] →
    filter test ss ≡ ss
filter_all test other [] flips none = refl
filter_all test other (s ∷ ss) flips none =
    go (test s) (filter_all test other ss flips) (subst (λ (b : Bool). cond b (s ∷ filter other ss) (filter other ss) ≡ []) (flips s) none)
  where
    go : (b : Bool) → (filter other ss ≡ [] → filter test ss ≡ ss) → cond (not b) (s ∷ filter other ss) (filter other ss) ≡ [] →
        cond b (s ∷ filter test ss) (filter test ss) ≡ s ∷ ss
    go true again e = ap (λ xs. s ∷ xs) (again e)
    go false again e = let l : length (s ∷ filter other ss) ≡ 0 = ap (λ (xs : List Stake). length xs) e in absurd (omega arith)

-- if one part has every stake, the other has none
others_none : (v w u : View) → IsAware v → ((k : ℕ) → stake_of w k + stake_of u k ≡ stake_of v k) → HasEveryStake w → u.stakes ≡ []
others_none v w u a parts every = no_stakes u.stakes none
  where
    none : (k : ℕ) → stake_of u k ≡ 0
    none k =
        let p = parts k in
        let o = a.stake_once k in
        elim (cases_lt k 16) [
          | inl y ↦ let e = every k y in omega arith
          | inr n ↦ elim (cases_lt 0 (stake_of v k)) [ inl z ↦ let s = a.stake_small k z in absurd (omega arith) | inr z ↦ omega arith ]
        ]

-- of the stakes of a number a test of numbers leaves all or none
filter_by : (test : ℕ → Bool) (amount : List Entry → ℕ) (r : ℕ) (ss : List Stake) →
    sum_by (amount_by r amount) (filter (λ (s : Stake). test s.number) ss) ≡ (if test r then sum_by (amount_by r amount) ss else 0)
filter_by test amount r [] = go (test r)
  where
    go : (b : Bool) → sum_by (amount_by r amount) [] ≡ (if b then sum_by (amount_by r amount) [] else 0)
    go true = refl
    go false = refl
filter_by test amount r (s ∷ ss) = elim (eqb_tells s.number r) [
  | inl y ↦ subst (λ (n : ℕ). sum_by (amount_by n amount)
      (filter (λ (x : Stake). test x.number) (s ∷ ss)) ≡ (if test n then sum_by (amount_by n amount) (s ∷ ss) else 0)) y.1
      (here (test s.number)
      (subst (λ (n : ℕ). sum_by (amount_by n amount)
      (filter (λ (x : Stake). test x.number) ss) ≡ (if test n then sum_by (amount_by n amount) ss else 0)) (sym y.1)
      (filter_by test amount r ss)))
  | inr n ↦
      let zero : amount_by r amount s ≡ 0 = rw n.0 refl in
      let rest : sum_by (amount_by r amount) (s ∷ ss) ≡ sum_by (amount_by r amount) ss = let c = sum_by-cons (amount_by r amount) s ss in
      omega arith in
      left_out (test s.number) zero ∙ (filter_by test amount r ss ∙ ap (λ (n : ℕ). if test r then n else 0) (sym rest))
]
  where
    here : (b : Bool) →
        sum_by (amount_by s.number amount)
        (filter (λ (x : Stake). test x.number) ss) ≡ (if b then sum_by (amount_by s.number amount) ss else 0) →
        sum_by (amount_by s.number amount)
        (cond b (s ∷ filter (λ (x : Stake). test x.number) ss) (filter (λ (x : Stake). test x.number) ss))
        ≡ (if b then sum_by (amount_by s.number amount) (s ∷ ss) else 0)
    here true e =
        let f = sum_by-cons (amount_by s.number amount) s (filter (λ (x : Stake). test x.number) ss) in
        let g = sum_by-cons (amount_by s.number amount) s ss in
        omega arith
    here false e = e

    left_out : (b : Bool) → amount_by r amount s ≡ 0 →
        sum_by (amount_by r amount) (cond b (s ∷ filter (λ (x : Stake). test x.number) ss) (filter (λ (x : Stake). test x.number) ss))
        ≡ sum_by (amount_by r amount) (filter (λ (x : Stake). test x.number) ss)
    left_out true z = let f = sum_by-cons (amount_by r amount) s (filter (λ (x : Stake). test x.number) ss) in omega arith
    left_out false z = refl

-- no stake's log of the rest added more than it owes
part_covered : (test : ℕ → Bool) (ss : List Stake) (r q : ℕ) →
    sum_by (amount_by r (sum_by (added_as q))) ss ≤ sum_by (amount_by r (sum_by (owes_as q))) ss →
    sum_by (amount_by r (sum_by (added_as q))) (filter (λ (s : Stake). test s.number) ss)
    ≤ sum_by (amount_by r (sum_by (owes_as q))) (filter (λ (s : Stake). test s.number) ss)
part_covered test ss r q less = rw (filter_by test (sum_by (added_as q)) r ss, filter_by test (sum_by (owes_as q)) r ss) (go (test r))
  where
    go : (b : Bool) → (if b then sum_by (amount_by r (sum_by (added_as q))) ss else 0) ≤ (if b then sum_by
        (amount_by r (sum_by (owes_as q))) ss else 0)
    go true = less
    go false = omega arith

not_twice : (b : Bool) → b ≡ not (not b)
not_twice true = refl
not_twice false = refl

-- a view that hands something over stays aware
pub left_aware : (p : Parcel) (v : View) → CanHand p v → IsAware v → IsAware (left_after p v)
left_aware p v can a =
    let parts = hand_parts p v can in
    share_aware v (left_after p v) (record {
      things = λ x. let e = parts.things x in omega arith;
      leases = λ n. let e = parts.leases n in omega arith;
      stakes = λ k. let e = parts.stakes k in omega arith;
      keepers = λ k. let e = parts.keepers k in omega arith;
      logs = λ weight. let e = parts.logs weight in omega arith;
      some_stakes = ((λ k. not (p.stakes k)), refl);
      some_keepers = ((λ k. not (p.keepers k)), refl);
      covered = λ r q. part_covered (λ k. not (p.stakes k)) v.stakes r q;
      whole = λ every. filter_all (λ (s : Stake). not (p.stakes s.number)) (λ (s : Stake). p.stakes s.number) v.stakes
          (λ s. not_twice (p.stakes s.number))
          (others_none v (left_after p v) (given_after p v) a (λ k. parts.stakes k) every);
      words = refl;
      seen = refl;
      lists = refl;
      undone = λ t. let e = parts.undone t in omega arith;
      poisoned = λ every t. let e = parts.poisoned t in let z = given_clean p v in let l = poisoned_unclean (given_after p v) t in
          omega arith;
    }) a

-- a stake that is given is in the parcel
given_stake : (p : Parcel) (k : ℕ) (ss : List Stake) →
    0 < sum_by (λ (s : Stake). one (eqb s.number k)) (filter (λ (s : Stake). p.stakes s.number) ss) → p.stakes k ≡ true
given_stake p k [] has = absurd (omega arith)
given_stake p k (s ∷ ss) has = elim (cases_Bool (p.stakes s.number)) [
  | inl y ↦ elim (eqb_tells s.number k) [
    | inl z ↦ ap p.stakes (sym z.1) ∙ y
    | inr n ↦
        let c = sum_by-cons (λ (x : Stake). one (eqb x.number k)) s (filter (λ (x : Stake). p.stakes x.number) ss) in
        let e : one (eqb s.number k) ≡ 0 = ap one n.0 in
        let h : 0 < sum_by (λ (x : Stake). one (eqb x.number k)) (s ∷ filter (λ (x : Stake). p.stakes x.number) ss) = rw y at has in
        given_stake p k ss (omega arith)
  ]
  | inr n ↦ given_stake p k ss (rw n at has)
]

first_given : (p : Parcel) (v : View) → HasEveryStake (given_after p v) → p.stakes 0 ≡ true
first_given p v every = given_stake p 0 v.stakes (every 0 (omega arith))

-- the view that gets what is handed over is aware
pub given_aware : (p : Parcel) (v : View) → CanHand p v → IsAware v → IsAware (given_after p v)
given_aware p v can a =
    let parts = hand_parts p v can in
    share_aware v (given_after p v) (record {
      things = λ x. let e = parts.things x in omega arith;
      leases = λ n. let e = parts.leases n in omega arith;
      stakes = λ k. let e = parts.stakes k in omega arith;
      keepers = λ k. let e = parts.keepers k in omega arith;
      logs = λ weight. let e = parts.logs weight in omega arith;
      some_stakes = (p.stakes, refl);
      some_keepers = (p.keepers, refl);
      covered = λ r q. part_covered p.stakes v.stakes r q;
      whole = λ every. filter_all (λ (s : Stake). p.stakes s.number) (λ (s : Stake). not (p.stakes s.number)) v.stakes (λ s. refl)
          (others_none v (given_after p v) (left_after p v) a (λ k. let e = parts.stakes k in omega arith) every);
      words = refl;
      seen = refl;
      lists = refl;
      undone = λ t. let e = parts.undone t in omega arith;
      poisoned = λ every t. let z = can.clean 0 (first_given p v every) in let l = poisoned_unclean v t in omega arith;
    }) a
