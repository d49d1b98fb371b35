-- The fifth part at the start, with empty lists, and keepers and leases in the first view, and the seventh, with empty logs.
use Rattle.std.proofs.Common.{◌≡◌, ℕ, zero, suc, ◌+◌, ◌<◌, ◌≤◌, List, [], ◌∷◌, ◌++◌, refl, sym, ap, subst, arith, ◌⊎◌, inl, inr, eqb, leb}
use Rattle.std.specs.Prelude.{slice_index}
use Rattle.std.specs.List.{sum_by}
use Rattle.core.specs.List.{AllByRecursion as Each}
use Rattle.std.proofs.lemmas.List.Sums.{sum_by-cons}
use Rattle.std.proofs.lemmas.Bool.{cases_lt, le-leb}
use mathlib.Core.Option.{some, some-injective, some-ne-none}
use lib.ListN.{get_elem?}
use Rattle.pa_slot.specs.Count.{number_of}
use Rattle.pa_slot.specs.Titles.{count_place, count_word}
use Rattle.pa_slot.specs.Holdings.{one}
use Rattle.pa_region.specs.declared.view.Stake.{Stake}
use Rattle.pa_region.specs.declared.view.Keeper.{Keeper}
use Rattle.pa_region.specs.declared.view.View.{View}
use Rattle.pa_region.specs.Start.{blank, stakes_from, keepers_from, first_view}
use Rattle.pa_region.specs.Lists.{made_with, entered_in, IsListed, HasSeenFree, Lists}
use Rattle.pa_region.specs.Order.{Stamped, by_stake, IsLoggedIn, InOneOrder}
use Rattle.pa_region.proofs.Adding.{one_lt, one_eq}

-- the first view's words
pub blank_at : (n i : ℕ) → slice_index (blank n) i ≡ 0
unfolding blank
blank_at zero i = refl
blank_at (suc n) zero = refl
blank_at (suc n) (suc i) = blank_at n i

-- the stakes from 0 on, each once
pub stake_count : (from count k : ℕ) →
    ((from ≤ k) × (k < from + count) × (sum_by (λ (s : Stake). one (eqb s.number k)) (stakes_from from count) ≡ 1))
    ⊎ (((from ≤ k) × (k < from + count) → ⊥) × (sum_by (λ (s : Stake). one (eqb s.number k)) (stakes_from from count) ≡ 0))
stake_count from zero k = inr ((λ h. let p = h.0 in let q = h.1 in omega arith), refl)
stake_count from (suc count) k =
    let c = sum_by-cons (λ (s : Stake). one (eqb s.number k)) (record { number = from; log = [] }) (stakes_from (suc from) count) in
    elim (one_eq from k) [
      | inl y ↦
          let e = y.0 in let f = y.1 in
          inl (
            omega arith,
            omega arith,
            elim (stake_count (suc from) count k) [ inl z ↦ let p = z.0 in absurd (omega arith) | inr n ↦ let z = n.1 in omega arith ],
          )
      | inr n ↦
          let e = n.0 in
          elim (stake_count (suc from) count k) [
            | inl z ↦ let p = z.0 in let q = z.1 in let r = z.2 in inl (omega arith, omega arith, omega arith)
            | inr m ↦ let r = m.1 in
                inr (
                  (λ h. let p = h.0 in let q = h.1 in
                      m.0 (elim (cases_lt from k) [ inl a ↦ omega arith | inr a ↦ absurd (n.1 (omega arith)) ], omega arith)),
                  omega arith,
                )
          ]
    ]

-- the keepers are numbered as the stakes are
keeper_count : (from count k : ℕ) →
    sum_by (λ (q : Keeper). one (eqb q.number k)) (keepers_from from count) ≡ sum_by (λ (s : Stake). one (eqb s.number k))
    (stakes_from from count)
keeper_count from zero k = refl
keeper_count from (suc count) k =
    let again = keeper_count (suc from) count k in
    let a = sum_by-cons (λ (q : Keeper). one (eqb q.number k)) (record { number = from; entries = [] }) (keepers_from (suc from) count) in
    let b = sum_by-cons (λ (s : Stake). one (eqb s.number k)) (record { number = from; log = [] }) (stakes_from (suc from) count) in
    omega arith

-- the lists of the first keepers are empty
keepers_empty : (from count : ℕ) → Each (λ (q : Keeper). q.entries ≡ []) (keepers_from from count)
keepers_empty from zero = tt
keepers_empty from (suc count) = (refl, keepers_empty (suc from) count)

-- the stake's log has entered nothing in the list of keeper k
abbrev HasEntered : ℕ → Stake → Type 0
HasEntered k s = made_with s.number [] ≡ entered_in k s.log

stakes_empty : (k from count : ℕ) → Each (HasEntered k) (stakes_from from count)
stakes_empty k from zero = tt
stakes_empty k from (suc count) = (refl, stakes_empty k (suc from) count)

-- the first view, to the empty lists
first_listed : (words budget : ℕ) → IsListed (λ k. []) (first_view words budget)
first_listed words budget = record {
  beginnings = tt;
  whole = λ k has. refl;
  kept = keepers_empty 0 6;
  made = λ k. stakes_empty k 0 16;
  noticed = λ k. stakes_empty k 0 16;
  follows = λ k. tt;
  handles = λ t has. absurd (omega arith);
}

-- the words of the first view are 0, so it has seen all numbers of its free titles
first_free : (words budget : ℕ) → HasSeenFree (first_view words budget)
first_free words budget t free =
    let z : number_of (count_word (blank words) t) ≡ 0 = ap number_of (blank_at words (count_place t)) in
    omega arith

-- the part at the start
pub first_lists : (words budget : ℕ) → Lists (λ k. []) (first_view words budget ∷ [])
first_lists words budget = record {
  each_keeper = λ k.
      let s = keeper_count 0 6 k in
      elim (stake_count 0 6 k) [
        | inl y ↦ elim (one_lt k 6) [
          | inl z ↦ let a = y.2 in let b = z.0 in omega arith
          | inr n ↦ let a = y.1 in let b = n.1 in
              absurd (omega arith)
        ]
        | inr m ↦ elim (one_lt k 6) [
          | inl z ↦ let a = z.1 in absurd (m.0 (omega arith, omega arith))
          | inr n ↦ let a = m.1 in let b = n.0 in
              omega arith
        ]
      ];
  each_lease = λ n. let z : one (leb 0 n) ≡ 1 = ap one (le-leb 0 n (omega arith)) in omega arith;
  rises = λ k. tt;
  makers = λ k. tt;
  each_view = λ i v at_i. subst (IsListed (λ k. [])) (only i v at_i) (first_listed words budget);
  free_seen = λ i v at_i. subst HasSeenFree (only i v at_i) (first_free words budget);
}
  where
    only : (i : ℕ) (v : View) → get_elem? (first_view words budget ∷ []) i ≡ some v → first_view words budget ≡ v
    only zero v at_i = some-injective (first_view words budget) v at_i
    only (suc i) v at_i = absurd (some-ne-none v (sym at_i))

-- all logs are empty
logs_empty : (from count : ℕ) → Each (λ (s : Stake). s.log ≡ by_stake s.number []) (stakes_from from count)
logs_empty from zero = tt
logs_empty from (suc count) = (refl, logs_empty (suc from) count)

-- at the start nothing was logged, and this is of one order
pub first_order : (words budget : ℕ) → InOneOrder [] (λ k. []) (first_view words budget ∷ [])
first_order words budget = record {
  stakes = tt;
  logs = λ i v at_i. subst (IsLoggedIn []) (only i v at_i) (logs_empty 0 16);
  lists = λ k. refl;
  found = λ before after m t word split touches. absurd (none before m after split);
}
  where
    only : (i : ℕ) (v : View) → get_elem? (first_view words budget ∷ []) i ≡ some v → first_view words budget ≡ v
    only zero v at_i = some-injective (first_view words budget) v at_i
    only (suc i) v at_i = absurd (some-ne-none v (sym at_i))

    none : (before : List Stamped) (m : Stamped) (after : List Stamped) → [] ≡ before ++ m ∷ after → ⊥
    none [] m after e = cc
    none (x ∷ before) m after e = cc
