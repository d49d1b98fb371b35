-- The fifth part after an entry in a keeper's list.
use Rattle.std.proofs.Common.{◌≡◌, ℕ, ◌<◌, ◌≤◌, Bool, true, false, List, [], ◌∷◌, ◌++◌, set, refl, sym, ◌∙◌, ap, subst, arith, inl, inr, eqb, append_assoc, length-append}
use Rattle.std.specs.Prelude.{if◌then◌else◌}
use Rattle.std.specs.List.{sum_by}
use Rattle.core.specs.List.{AllByRecursion as Each}
use Rattle.std.proofs.lemmas.List.Sums.{sum_by-cons}
use Rattle.std.proofs.lemmas.Bool.{cases_Bool}
use Rattle.std.proofs.lemmas.Bool.Decides.{eqb_tells}
use mathlib.Core.Option.{some}
use lib.ListN.{get_elem?}
use Rattle.pa_slot.specs.Holdings.{one}
use Rattle.pa_region.specs.declared.view.Entry.{Entry}
use Rattle.pa_region.specs.declared.view.Entry.TheVariants.{Entered}
use Rattle.pa_region.specs.declared.view.Made.{Made}
use Rattle.pa_region.specs.declared.view.Stake.{Stake}
use Rattle.pa_region.specs.declared.view.Keeper.{Keeper}
use Rattle.pa_region.specs.declared.view.View.{View}
use Rattle.pa_region.specs.Views.{stake_of, stakes_in, least_stake}
use Rattle.pa_region.specs.Moves.{changed, noted}
use Rattle.pa_region.specs.Lists.{keeper_of, keepers_in, lease_of, list_of, made_with, entry_in, entered_in, IsBeginning, IsKnownTo, Rises, IsListed, HasSeenFree, Lists}
use Rattle.pa_region.specs.Entries.{new_entry, with_made, is_keeper, after_enter, CanEnter}
use Rattle.pa_region.proofs.Adding.{changed_sum, sum_set, sum_pair, sum_part, one_lt}
use Rattle.pa_region.proofs.Entering.{with_entry_last, least_there}
use Rattle.pa_region.proofs.ListFacts.{each_map, each_append, made_append, entered_more, entered_nothing}
use Rattle.pa_region.proofs.ListPart.{each_set}
use Rattle.pa_region.proofs.JoinLists.{longer_is}

module _ {A : Type 0} where
  -- if no member passes the test
  pub each_none : (P Q : A → Type 0) (test : A → Bool) (xs : List A) → sum_by (λ x. one (test x)) xs ≡ 0 →
      ((x : A) → test x ≡ false → P x → Q x) → Each P xs → Each Q xs
  each_none P Q test [] none h e = tt
  each_none P Q test (x ∷ xs) none h e =
      let c = sum_by-cons (λ y. one (test y)) x xs in
      elim (cases_Bool (test x)) [
        | inl y ↦ let z : one (test x) ≡ 1 = ap one y in absurd (omega arith)
        | inr n ↦ (h x n e.0, each_none P Q test xs (omega arith) h e.1)
      ]

  -- if at most one does, and it changes
  pub each_one : (P Q : A → Type 0) (test : A → Bool) (change : A → A) (xs : List A) → sum_by (λ x. one (test x)) xs ≤ 1 →
      ((x : A) → test x ≡ true → P x → Q (change x)) → ((x : A) → test x ≡ false → P x → Q x) → Each P xs → Each Q (changed test change xs)
  each_one P Q test change [] few f h e = tt
  each_one P Q test change (x ∷ xs) few f h e =
      let c = sum_by-cons (λ y. one (test y)) x xs in
      elim (cases_Bool (test x)) [
        | inl y ↦ let z : one (test x) ≡ 1 = ap one y in rw y (f x y e.0, each_none P Q test xs (omega arith) h e.1)
        | inr n ↦ rw n (h x n e.0, each_one P Q test change xs (omega arith) f h e.1)
      ]

append_nil : (xs : List Made) → xs ++ [] ≡ xs
append_nil [] = refl
append_nil (x ∷ xs) = ap (λ ys. x ∷ ys) (append_nil xs)

-- what makers had seen still grows, if the last one has seen it all
rises_more : (ms : List Made) (m : Made) → Rises ms → Each (IsKnownTo m.seen) ms → Rises (ms ++ m ∷ [])
rises_more [] m r known = (tt, tt)
rises_more (x ∷ ms) m r known =
    (each_append (λ later. IsKnownTo later.seen x) ms (m ∷ []) r.0 (known.0, tt), rises_more ms m r.1 known.1)

-- the tests of two numbers
pub eqb_flip : (a b : ℕ) (c : Bool) → eqb a b ≡ c → eqb b a ≡ c
eqb_flip a b c e = elim (eqb_tells a b) [
  | inl y ↦ elim (eqb_tells b a) [ inl z ↦ z.0 ∙ (sym y.0 ∙ e) | inr n ↦ absurd (n.1 (sym y.1)) ]
  | inr n ↦ elim (eqb_tells b a) [ inl z ↦ absurd (n.1 (sym z.1)) | inr m ↦ m.0 ∙ (sym n.0 ∙ e) ]
]

-- a list of keeper q when that of keeper k has one more entry
abbrev pub list_with : (ℕ → List Made) → ℕ → Made → ℕ → List Made
list_with list k m q = if eqb q k then list q ++ m ∷ [] else list q

-- a keeper's list has what the entry puts there
pub list_grows : (list : ℕ → List Made) (k : ℕ) (m : Made) (q : ℕ) → list_with list k m q ≡ list q ++ entry_in q (Entered k m)
list_grows list k m q = elim (eqb_tells q k) [
  | inl y ↦ rw (y.0, eqb_flip q k true y.0) refl
  | inr n ↦ rw (n.0, eqb_flip q k false n.0) (sym (append_nil (list q)))
]

-- a beginning stays one
begins_more : (list : ℕ → List Made) (k : ℕ) (m : Made) (q : ℕ) (begun : List Made) → IsBeginning begun (list q) →
    IsBeginning begun (list_with list k m q)
begins_more list k m q begun b = go (eqb q k)
  where
    go : (c : Bool) → IsBeginning begun (if c then list q ++ m ∷ [] else list q)
    go true = (b.0 ++ m ∷ [], ap (λ xs. xs ++ m ∷ []) b.1 ∙ append_assoc begun b.0 (m ∷ []))
    go false = b

-- what stakes of another number made stays
made_other : (r : ℕ) (m : Made) (ms : List Made) → eqb m.stake r ≡ false → made_with r (ms ++ m ∷ []) ≡ made_with r ms
made_other r m ms e = made_append r ms (m ∷ []) ∙ rw e (append_nil (made_with r ms))

-- what the stake itself made grows as its log does
made_here : (k r : ℕ) (m : Made) (ms : List Made) (log : List Entry) → eqb m.stake r ≡ true → made_with r ms ≡ entered_in k log →
    made_with r (ms ++ m ∷ []) ≡ entered_in k (log ++ Entered k m ∷ [])
made_here k r m ms log e same =
    made_append r ms (m ∷ []) ∙
    (rw e (ap (λ xs. xs ++ m ∷ []) same) ∙ sym (entered_more k log (Entered k m) ∙ ap (λ xs. entered_in k log ++ xs) entry))
  where
    entry : entry_in k (Entered k m) ≡ m ∷ []
    entry = elim (eqb_tells k k) [ inl y ↦ rw y.0 refl | inr n ↦ absurd (n.1 refl) ]

-- in a log that got the entry, of the list of another keeper
entered_other : (k q : ℕ) (m : Made) (log : List Entry) → eqb q k ≡ false → entered_in q (log ++ Entered k m ∷ []) ≡ entered_in q log
entered_other k q m log e = entered_nothing q log (Entered k m) (rw (eqb_flip q k false e) refl)

-- What the stakes of the entering view made, in any list that grows as keeper k's does.
entering_made : (k q : ℕ) (m : Made) (ms : List Made) (ss : List Stake) → m.stake ≡ least_stake ss →
    sum_by (λ (s : Stake). one (eqb s.number (least_stake ss))) ss ≤ 1 →
    Each (λ (s : Stake). made_with s.number ms ≡ entered_in q s.log) ss →
    Each (λ (s : Stake). made_with s.number (if eqb q k then ms ++ m ∷ [] else ms) ≡ entered_in q s.log) (noted (Entered k m) ss)
entering_made k q m ms ss by few each = go (eqb q k) refl
  where
    same_number : eqb q k ≡ true → q ≡ k
    same_number e = elim (eqb_tells q k) [ inl y ↦ y.1 | inr n ↦ absurd (clash (sym n.0 ∙ e)) ]
      where
        clash : false ≡ true → ⊥
        clash h = cc

    go : (c : Bool) → eqb q k ≡ c →
        Each (λ (s : Stake). made_with s.number (if c then ms ++ m ∷ [] else ms) ≡ entered_in q s.log) (noted (Entered k m) ss)
    go true e = each_one (λ (s : Stake). made_with s.number ms ≡ entered_in q s.log)
        (λ (s : Stake). made_with s.number (ms ++ m ∷ []) ≡ entered_in q s.log)
        (λ (s : Stake). eqb s.number (least_stake ss)) (with_entry_last (Entered k m)) ss few
        (λ s here same. subst (λ (n : ℕ). made_with s.number (ms ++ m ∷ []) ≡ entered_in n (s.log ++ Entered k m ∷ []))
        (sym (same_number e))
        (made_here k s.number m ms s.log (eqb_flip s.number m.stake true (ap (eqb s.number) by ∙ here))
        (same ∙ ap (λ n. entered_in n s.log) (same_number e))))
        (λ s other same. made_other s.number m ms (eqb_flip s.number m.stake false (ap (eqb s.number) by ∙ other)) ∙ same) each
    go false e = each_one (λ (s : Stake). made_with s.number ms ≡ entered_in q s.log)
        (λ (s : Stake). made_with s.number ms ≡ entered_in q s.log)
        (λ (s : Stake). eqb s.number (least_stake ss)) (with_entry_last (Entered k m)) ss few
        (λ s here same. same ∙ sym (entered_other k q m s.log e)) (λ s other same. same) each

-- another view, which has neither the keeper nor the stake
beside_listed : (list : ℕ → List Made) (k : ℕ) (m : Made) (u : View) → IsListed list u → keeper_of u k ≡ 0 → stake_of u m.stake ≡ 0 →
    IsListed (list_with list k m) u
beside_listed list k m u l no_keeper no_stake = record {
  beginnings = each_map (λ n. IsBeginning n.entries (list n.keeper)) (λ n. IsBeginning n.entries (list_with list k m n.keeper)) u.seen_lists
      (λ n b. begins_more list k m n.keeper n.entries b) l.beginnings;
  whole = λ q has. elim (eqb_tells q k) [
    | inl y ↦ let z : keeper_of u q ≡ 0 = ap (keeper_of u) y.1 ∙ no_keeper in absurd (omega arith)
    | inr n ↦ rw n.0 (l.whole q has)
  ];
  kept = each_none (λ (q : Keeper). q.entries ≡ list q.number) (λ (q : Keeper). q.entries ≡ list_with list k m q.number)
      (is_keeper k) u.keepers no_keeper (λ q other same. rw other same) l.kept;
  made = λ q. go q (eqb q k);
  noticed = l.noticed;
  follows = l.follows;
  handles = l.handles;
}
  where
    go : (q : ℕ) (c : Bool) →
        Each (λ (s : Stake). made_with s.number (if c then list q ++ m ∷ [] else list q) ≡ entered_in q s.log) u.stakes
    go q true = each_none (λ (s : Stake). made_with s.number (list q) ≡ entered_in q s.log)
        (λ (s : Stake). made_with s.number (list q ++ m ∷ []) ≡ entered_in q s.log)
        (λ (s : Stake). eqb s.number m.stake) u.stakes no_stake
        (λ s other same. made_other s.number m (list q) (eqb_flip s.number m.stake false other) ∙ same) (l.made q)
    go q false = l.made q

-- what the entering view has seen of each list afterwards
pub seen_after : (k : ℕ) (numbers : List ℕ) (v : View) (q : ℕ) →
    list_of q (after_enter k numbers v) ≡ (if eqb q k then list_of q v ++ new_entry numbers v ∷ [] else list_of q v)
seen_after k numbers v q = elim (eqb_tells q k) [
  | inl y ↦ subst (λ (n : ℕ). list_of n (after_enter k numbers v) ≡ (if eqb n k then list_of n v ++
      new_entry numbers v ∷ [] else list_of n v)) (sym y.1) here
  | inr n ↦ rw (eqb_flip q k false n.0, n.0) refl
]
  where
    here : list_of k (after_enter k numbers v) ≡ (if eqb k k then list_of k v ++ new_entry numbers v ∷ [] else list_of k v)
    here = elim (eqb_tells k k) [
      | inl y ↦ rw y.0 (elim (longer_is (list_of k v ++ new_entry numbers v ∷ []) (list_of k v)) [
        | inl z ↦ let l = length-append (list_of k v) (new_entry numbers v ∷ []) in let z1 = z.1 in absurd (omega arith)
        | inr z ↦ z.0
      ])
      | inr n ↦ absurd (n.1 refl)
    ]

-- the entering view
here_listed : (list : ℕ → List Made) (k : ℕ) (numbers : List ℕ) (v : View) → IsListed list v → 0 < keeper_of v k → keeper_of v k ≤ 1 →
    stake_of v (least_stake v.stakes) ≤ 1 →
    IsListed (list_with list k (new_entry numbers v)) (after_enter k numbers v)
here_listed list k numbers v l has one_keeper one_stake =
    let m = new_entry numbers v in
    let w = after_enter k numbers v in
    record {
      beginnings = (
        (subst (λ (xs : List Made). IsBeginning (list_of k v ++ m ∷ []) xs) (sym at_k)
            ([], ap (λ xs. xs ++ m ∷ []) (sym (l.whole k has)) ∙ sym (append_nil (list_of k v ++ m ∷ [])))),
        each_map (λ n. IsBeginning n.entries (list n.keeper)) (λ n. IsBeginning n.entries (list_with list k m n.keeper)) v.seen_lists
            (λ n b. begins_more list k m n.keeper n.entries b) l.beginnings,
      );
      whole = λ q there. seen_after k numbers v q ∙ ap (λ xs. if eqb q k then xs ++ m ∷ [] else xs)
          (l.whole q (let e = changed_sum (is_keeper k) (with_made m) (λ (p : Keeper). one (eqb p.number q)) v.keepers (λ p. refl) in
          omega arith));
      kept = each_one (λ (q : Keeper). q.entries ≡ list q.number) (λ (q : Keeper). q.entries ≡ list_with list k m q.number) (is_keeper k)
          (with_made m) v.keepers one_keeper
          (λ q here same. rw here (ap (λ xs. xs ++ m ∷ []) same)) (λ q other same. rw other same) l.kept;
      made = λ q. entering_made k q m (list q) v.stakes refl one_stake (l.made q);
      noticed = λ q. subst (λ (xs : List Made). Each (λ (s : Stake). made_with s.number xs ≡ entered_in q s.log) w.stakes)
          (sym (seen_after k numbers v q))
          (entering_made k q m (list_of q v) v.stakes refl one_stake (l.noticed q));
      follows = λ q. subst (λ (xs : List Made). Each (IsKnownTo v.seen) xs) (sym (seen_after k numbers v q)) (known q (eqb q k));
      handles = l.handles;
    }
  where
    at_k : list_with list k (new_entry numbers v) k ≡ list k ++ new_entry numbers v ∷ []
    at_k = elim (eqb_tells k k) [ inl y ↦ rw y.0 refl | inr n ↦ absurd (n.1 refl) ]

    known : (q : ℕ) (c : Bool) → Each (IsKnownTo v.seen) (if c then list_of q v ++ new_entry numbers v ∷ [] else list_of q v)
    known q true = each_append (IsKnownTo v.seen) (list_of q v) (new_entry numbers v ∷ []) (l.follows q) ((λ t. omega arith), tt)
    known q false = l.follows q

-- an entry keeps the part, for the lists with it
pub enter_lists : (list : ℕ → List Made) (k : ℕ) (numbers : List ℕ) (views : List View) (i : ℕ) (v : View) → get_elem? views i ≡ some v →
    CanEnter k v →
    ((n : ℕ) → stakes_in views n ≤ 1) → Lists list views →
    Lists (list_with list k (new_entry numbers v)) (set views i (after_enter k numbers v))
enter_lists list k numbers views i v at_i can once l =
    let m = new_entry numbers v in
    let w = after_enter k numbers v in
    let has = can.0 in
    let keepers : keepers_in views k ≤ 1 = let e = l.each_keeper k in
    elim (one_lt k 6) [ inl y ↦ let z = y.0 in omega arith | inr n ↦ let z = n.0 in omega arith ] in
    record {
      each_keeper = λ q.
          let c = sum_set (λ u. keeper_of u q) views i v w at_i in
          let e = changed_sum (is_keeper k) (with_made m) (λ (p : Keeper). one (eqb p.number q)) v.keepers (λ p. refl) in
          let n = l.each_keeper q in
          omega arith;
      each_lease = λ n. let c = sum_set (λ u. lease_of u n) views i v w at_i in let o = l.each_lease n in omega arith;
      rises = λ q. rising q (eqb q k) refl;
      makers = λ q. making q (eqb q k);
      each_view = each_set (IsListed (list_with list k m)) views i v w at_i
          (λ j u at_j ne. beside_listed list k m u (l.each_view j u at_j)
          (let p = sum_pair (λ x. keeper_of x k) views i j v u at_i at_j ne in omega arith)
          (let p = sum_pair (λ x. stake_of x m.stake) views i j v u at_i at_j ne in let o = once m.stake in let s = mine in omega arith))
          (here_listed list k numbers v (l.each_view i v at_i) has (let p = sum_part (λ x. keeper_of x k) views i v at_i in omega arith)
          (let p = sum_part (λ x. stake_of x (least_stake v.stakes)) views i v at_i in let o = once (least_stake v.stakes) in omega arith));
      free_seen = each_set HasSeenFree views i v w at_i (λ j u at_j ne. l.free_seen j u at_j) (l.free_seen i v at_i);
    }
  where
    mine : 0 < stake_of v (least_stake v.stakes)
    mine = least_there v.stakes can.1

    rising : (q : ℕ) (c : Bool) → eqb q k ≡ c → Rises (if c then list q ++ new_entry numbers v ∷ [] else list q)
    rising q true e = elim (eqb_tells q k) [
      | inl y ↦ rises_more (list q) (new_entry numbers v) (l.rises q)
          (subst (λ (xs : List Made). Each (IsKnownTo v.seen) xs)
          ((l.each_view i v at_i).whole q (subst (λ (n : ℕ). 0 < keeper_of v n) (sym y.1) can.0)) ((l.each_view i v at_i).follows q))
      | inr n ↦ absurd (clash (sym n.0 ∙ e))
    ]
      where
        clash : false ≡ true → ⊥
        clash h = cc
    rising q false e = l.rises q

    making : (q : ℕ) (c : Bool) → Each (λ x. x.stake < 16) (if c then list q ++ new_entry numbers v ∷ [] else list q)
    making q true = each_append (λ x. x.stake < 16) (list q) (new_entry numbers v ∷ []) (l.makers q) (can.1, tt)
    making q false = l.makers q
