-- The rule's part on one order, when a log gets an entry, when none does, and when views are regrouped.
use Rattle.std.proofs.Common.{◌≡◌, ℕ, zero, suc, ◌<◌, ◌≤◌, Bool, true, false, List, [], ◌∷◌, ◌++◌, map, set, refl, sym, ◌∙◌, ap, subst, arith, ◌⊎◌, inl, inr, eqb, append-nil}
use Rattle.std.specs.Prelude.{nat_lt, if◌then◌else◌}
use Rattle.core.specs.List.{AllByRecursion as Each}
use Rattle.std.proofs.lemmas.List.{map-append}
use mathlib.Core.Option.{some, some-injective, some-ne-none}
use lib.ListN.{get_elem?}
use Rattle.pa_slot.specs.declared.title.Title.{Title}
use Rattle.pa_slot.specs.Count.{number_of}
use Rattle.pa_slot.specs.Holdings.{one}
use Rattle.pa_region.specs.declared.view.Entry.{Entry}
use Rattle.pa_region.specs.declared.view.Made.{Made}
use Rattle.pa_region.specs.declared.view.Stake.{Stake}
use Rattle.pa_region.specs.declared.view.View.{View}
use Rattle.pa_region.specs.Views.{stake_of, stakes_in, least_stake, HasStake}
use Rattle.pa_region.specs.Moves.{noted}
use Rattle.pa_region.specs.Lists.{list_among, list_of, entry_in, entered_in}
use Rattle.pa_region.specs.Order.{Stamped, by_stake, steps_on, Touches, IsLoggedIn, InOneOrder}
use Rattle.pa_region.proofs.Adding.{sum_part, sum_pair, one_lt}
use Rattle.pa_region.proofs.Entering.{with_entry_last, least_there}
use Rattle.pa_region.proofs.ListFacts.{each_append, entered_more}
use Rattle.pa_region.proofs.EnterLists.{each_none, each_one, eqb_flip}
use Rattle.pa_region.proofs.ReadsSame.{each_set}

-- the order with an entry more at its end, made with the view's least stake
abbrev pub ending : Entry → View → List Stamped → List Stamped
ending e v all = all ++ record { stake = least_stake v.stakes; entry = e } ∷ []

-- what was logged with a stake, with an entry more at the end
by_stake_here : (r : ℕ) (all : List Stamped) (m : Stamped) → eqb m.stake r ≡ true → by_stake r (all ++ m ∷ []) ≡ by_stake r all ++
    m.entry ∷ []
by_stake_here r [] m e = rw e refl
by_stake_here r (n ∷ all) m e = go (eqb n.stake r) (by_stake_here r all m e)
  where
    go : (b : Bool) → by_stake r (all ++ m ∷ []) ≡ by_stake r all ++ m.entry ∷ [] →
        (if b then n.entry ∷ by_stake r (all ++ m ∷ []) else by_stake r (all ++ m ∷ []))
        ≡ (if b then n.entry ∷ by_stake r all else by_stake r all) ++ m.entry ∷ []
    go true again = ap (λ xs. n.entry ∷ xs) again
    go false again = again

by_stake_other : (r : ℕ) (all : List Stamped) (m : Stamped) → eqb m.stake r ≡ false → by_stake r (all ++ m ∷ []) ≡ by_stake r all
by_stake_other r [] m e = rw e refl
by_stake_other r (n ∷ all) m e = go (eqb n.stake r) (by_stake_other r all m e)
  where
    go : (b : Bool) → by_stake r (all ++ m ∷ []) ≡ by_stake r all →
        (if b then n.entry ∷ by_stake r (all ++ m ∷ []) else by_stake r
        (all ++ m ∷ [])) ≡ (if b then n.entry ∷ by_stake r all else by_stake r all)
    go true again = ap (λ xs. n.entry ∷ xs) again
    go false again = again

-- a place in a list with one more at its end is a place in the list, or the end
module _ {A : Type 0} where
  place_or_end : (xs : List A) (x : A) (before : List A) (m : A) (after : List A) → xs ++ x ∷ [] ≡ before ++ m ∷ after →
      ((rest : List A) × (xs ≡ before ++ m ∷ rest)) ⊎ ((before ≡ xs) × (m ≡ x))
  place_or_end [] x [] m after e = inr (refl, cc)
  place_or_end [] x (b ∷ []) m after e = absurd (cc)
  place_or_end [] x (b ∷ c ∷ before) m after e = absurd (cc)
  place_or_end (y ∷ xs) x [] m after e = inl (xs, ap (λ z. z ∷ xs) (let h : y ≡ m = cc in h))
  place_or_end (y ∷ xs) x (b ∷ before) m after e =
      let head : y ≡ b = cc in
      let tail : xs ++ x ∷ [] ≡ before ++ m ∷ after = cc in
      elim (place_or_end xs x before m after tail) [
        | inl r ↦ inl (r.0, cc)
        | inr p ↦ inr ((let q = p.0 in cc), p.1)
      ]

-- an entry more at the end of the least stake's log, and at the end of the order
pub order_more : (all : List Stamped) (list after : ℕ → List Made) (views : List View) (i : ℕ) (v w : View) (e : Entry) →
    get_elem? views i ≡ some v →
    w.stakes ≡ noted e v.stakes → HasStake v → ((n : ℕ) → stakes_in views n ≡ one (nat_lt n 16)) →
    ((k : ℕ) → after k ≡ list k ++ entry_in k e) →
    ((t : Title) (word : ℕ) → Touches e t word → number_of word ≡ steps_on t all) → InOneOrder all list views →
    InOneOrder (ending e v all) after (set views i w)
order_more all list after views i v w e at_i stakes has every more finds o =
    let least = least_stake v.stakes in
    let m : Stamped = record { stake = least; entry = e } in
    let P : Stake → Type 0 = λ (s : Stake). s.log ≡ by_stake s.number all in
    let Q : Stake → Type 0 = λ (s : Stake). s.log ≡ by_stake s.number (all ++ m ∷ []) in
    let other : (s : Stake) → eqb s.number least ≡ false → s.log ≡ by_stake s.number all → s.log ≡ by_stake s.number (all ++ m ∷ []) =
    λ s no same. same ∙ sym (by_stake_other s.number all m (eqb_flip s.number least false no)) in
    record {
      stakes = each_append (λ (n : Stamped). n.stake < 16) all (m ∷ []) o.stakes (has, tt);
      logs = each_set (IsLoggedIn all) (IsLoggedIn (all ++ m ∷ [])) views i v w at_i o.logs
          (subst (λ (ss : List Stake). Each (λ (s : Stake). s.log ≡ by_stake s.number (all ++ m ∷ [])) ss) (sym stakes)
          (each_one (λ (s : Stake). s.log ≡ by_stake s.number all) (λ (s : Stake). s.log ≡ by_stake s.number (all ++ m ∷ []))
          (λ (s : Stake). eqb s.number least) (with_entry_last e) v.stakes
          (let p = sum_part (λ x. stake_of x least) views i v at_i in let c = once in omega arith)
          (λ s here same. ap (λ xs. xs ++ e ∷ []) same ∙ sym (by_stake_here s.number all m (eqb_flip s.number least true here)))
          other (o.logs i v at_i)))
          (λ j u ne at_j each. each_none (λ (s : Stake). s.log ≡ by_stake s.number all)
          (λ (s : Stake). s.log ≡ by_stake s.number (all ++ m ∷ []))
          (λ (s : Stake). eqb s.number least) u.stakes
          (let p = sum_pair (λ x. stake_of x least) views i j v u at_i at_j ne in let c = once in let s = least_there v.stakes has in
          omega arith)
          other each);
      lists = λ k.
          more k ∙ (ap (λ xs. xs ++ entry_in k e) (o.lists k)
          ∙ sym (ap (entered_in k) (map-append (λ (n : Stamped). n.entry) all (m ∷ [])) ∙
          entered_more k (map (λ (n : Stamped). n.entry) all) e));
      found = λ before rest n t word split touches. elim (place_or_end all m before n rest split) [
        | inl y ↦ o.found before y.0 n t word y.1 touches
        | inr z ↦ subst (λ (xs : List Stamped). number_of word ≡ steps_on t xs) (sym z.0)
            (finds t word (subst (λ (x : Stamped). Touches x.entry t word) z.1 touches))
      ];
    }
  where
    once : stakes_in views (least_stake v.stakes) ≤ 1
    once = let e = every (least_stake v.stakes) in
        elim (one_lt (least_stake v.stakes) 16) [ inl y ↦ let z = y.0 in omega arith | inr n ↦ let z = n.0 in omega arith ]

-- one order goes on with an entry that is in no keeper's list
pub order_plain : (all : List Stamped) (list : ℕ → List Made) (views : List View) (i : ℕ) (v w : View) (e : Entry) →
    get_elem? views i ≡ some v →
    w.stakes ≡ noted e v.stakes → HasStake v → ((n : ℕ) → stakes_in views n ≡ one (nat_lt n 16)) → ((k : ℕ) → entry_in k e ≡ []) →
    ((t : Title) (word : ℕ) → Touches e t word → number_of word ≡ steps_on t all) → InOneOrder all list views →
    InOneOrder (ending e v all) list (set views i w)
order_plain all list views i v w e at_i stakes has every none finds o =
    order_more all list list views i v w e at_i stakes has every
    (λ k. sym (append-nil (list k)) ∙ ap (λ xs. list k ++ xs) (sym (none k))) finds o

-- each log as before, in whatever views
pub order_over : (all : List Stamped) (list : ℕ → List Made) (before after : List View) → InOneOrder all list before →
    ((i : ℕ) (v : View) → get_elem? after i ≡ some v → IsLoggedIn all v) → InOneOrder all list after
order_over all list before after o logs = record { stakes = o.stakes; logs = logs; lists = o.lists; found = o.found }

-- a view that has its stakes with their logs as before
pub order_same : (all : List Stamped) (list : ℕ → List Made) (views : List View) (i : ℕ) (v w : View) → get_elem? views i ≡ some v →
    w.stakes ≡ v.stakes →
    InOneOrder all list views → InOneOrder all list (set views i w)
order_same all list views i v w at_i stakes o = order_over all list views (set views i w) o
    (each_set (IsLoggedIn all) (IsLoggedIn all) views i v w at_i o.logs
    (subst (λ (ss : List Stake). Each (λ (s : Stake). s.log ≡ by_stake s.number all) ss) (sym stakes) (o.logs i v at_i))
    (λ j u ne at_j each. each))

-- the one view of an order
pub only_view : (v : View) (j : ℕ) (u : View) → get_elem? (v ∷ []) j ≡ some u → v ≡ u
only_view v zero u at_j = some-injective v u at_j
only_view v (suc j) u at_j = absurd (some-ne-none u (sym at_j))

-- another view with the same stakes, that has seen the same of the lists
pub order_of_view : (all : List Stamped) (v w : View) → w.stakes ≡ v.stakes → w.seen_lists ≡ v.seen_lists →
    InOneOrder all (λ k. list_of k v) (v ∷ []) →
    InOneOrder all (λ k. list_of k w) (w ∷ [])
order_of_view all v w stakes lists o = record {
  stakes = o.stakes;
  logs = λ j u at_j. subst (IsLoggedIn all) (only_view w j u at_j)
      (subst (λ (ss : List Stake). Each (λ (s : Stake). s.log ≡ by_stake s.number all) ss) (sym stakes) (o.logs 0 v refl));
  lists = λ k. ap (list_among k) lists ∙ o.lists k;
  found = o.found;
}
