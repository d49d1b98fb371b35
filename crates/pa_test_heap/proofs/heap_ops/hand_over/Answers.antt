use Rattle.std.proofs.Common.{◌≡◌, ℕ, ◌<◌, ◌≤◌, [], ◌∷◌, refl, sym, subst, ap, arith, inl, inr}
use Rattle.std.specs.Prelude.{◌==◌, filter}
use Rattle.std.specs.List.{sum_by}
use Rattle.std.proofs.lemmas.List.Sums.{sum_by-cons}
use Rattle.pa_slot.specs.Holdings.{one}
use Rattle.pa_region.specs.declared.marks.Mark.TheVariants as mark
use Rattle.pa_region.specs.declared.view.Stake.{Stake}
use Rattle.pa_region.specs.declared.view.View.{View}
use Rattle.pa_region.specs.Views.{stake_of}
use Rattle.pa_region.specs.Hands.{Parcel, CanHand, given_after}
use Rattle.pa_region.specs.Marks.{parcel_of}
use Rattle.pa_region.proofs.Adding.{one_eq}
use Rattle.pa_thread_state.specs.Starts.{HasAllStakes}
use Rattle.pa_op_specs.specs.Stocks.{IsForThread}
use Rattle.pa_test_heap.proofs.heap_ops.hand_over.Goals as goal

-- stake 0 and seven counted steps
abbrev for_first : Parcel
for_first = parcel_of [] 7 (mark.Stake 0 ∷ [])

can_hand : {v : View} → HasAllStakes 7 v → CanHand for_first v
can_hand all = record {
  items = tt;
  budget = subst (λ (n : ℕ). 7 ≤ n) (sym all.budget_is) (omega arith);
  leases = tt;
  clean = λ k is. all.clean;
}

-- of the stakes that are handed over this one alone is left
count_first : (v : View) (k : ℕ) → HasAllStakes 7 v → stake_of (given_after for_first v) k ≡ one (0 == k)
count_first v k all =
    let f : Stake → ℕ = λ (s : Stake). one (s.number == k) in
    let left : (given_after for_first v).stakes ≡ record { number = 0; log = [] } ∷ [] =
    ap (filter (λ (s : Stake). for_first.stakes s.number)) all.all in
    let c = sum_by-cons f (record { number = 0; log = [] }) [] in
    let e = ap (sum_by f) left in
    omega arith

is_for_first : {v : View} → HasAllStakes 7 v → IsForThread 0 (given_after for_first v)
is_for_first {v} all = record {
  stake = record {
    small = omega arith;
    only = λ k other. (let c = count_first v k all in
        elim (one_eq 0 k) [ inl y ↦ absurd (other (sym y.1)) | inr n ↦ let z = n.0 in omega arith ]);
  };
  has = (let c = count_first v 0 all in subst (λ (n : ℕ). 0 < n) (sym c) (omega arith));
  unused = λ t. refl;
}

pub hand-requires-clause-able : goal.hand-requires-clause-able
hand-requires-clause-able c = can_hand c.requires.all

pub returns-clause-note : goal.returns-clause-note
returns-clause-note c = subst (λ (v : View). IsForThread 0 v) (sym c.hand.ensures.given) (is_for_first c.requires.all)
