-- The least stake of a worker's seat, and that what the worker owes may be added by it.
use Rattle.std.proofs.Common.{◌≡◌, ℕ, ◌+◌, ◌<◌, ◌≤◌, List, [], ◌∷◌, refl, sym, ap, subst, arith, inl, inr}
use Rattle.std.specs.Prelude.{◌==◌}
use Rattle.std.specs.List.{sum_by}
use Rattle.std.proofs.lemmas.List.Sums.{sum_by-cons}
use Rattle.std.proofs.lemmas.Bool.Decides.{eqb_tells}
use Rattle.pa_slot.specs.Holdings.{one}
use Rattle.pa_region.specs.declared.view.Stake.{Stake}
use Rattle.pa_region.specs.declared.view.View.{View}
use Rattle.pa_region.specs.Aware.{IsAware}
use Rattle.pa_region.specs.Pairs.{least_log}
use Rattle.pa_region.specs.Views.{stake_of, stakes_in, least_stake, HasStake}
use Rattle.pa_region.specs.Takes.{log_of}
use Rattle.pa_region.specs.Totals.{added_as, owes_as}
use Rattle.pa_region.proofs.OneLog.{own_log}
use Rattle.pa_totals.specs.declared.owed.Owed.{Owed}
use Rattle.pa_totals.specs.Settled.{owed_in, none_owed, CanSettleAll}
use Rattle.pa_totals.proofs.Settling.{none_owed_in}
use Rattle.pa_op_specs.specs.Stocks.{StockValue, HoldsStake}
use Rattle.pa_op_specs.specs.Workers.{HasItsStake, IsCovered}

-- if all stakes have one number, the least one isn't below it
least_from : (r : ℕ) (ss : List Stake) → r ≤ 16 → ((k : ℕ) → (k ≡ r → ⊥) → sum_by (λ (s : Stake). one (s.number == k)) ss ≡ 0) →
    r ≤ least_stake ss
least_from r [] small only = small
least_from r (s ∷ ss) small only =
    let again = least_from r ss small (λ k other. let c = sum_by-cons (λ (x : Stake). one (x.number == k)) s ss in let z = only k other in
    omega arith) in
    elim (eqb_tells s.number r) [
      | inl y ↦ omega arith
      | inr n ↦ elim (eqb_tells s.number s.number) [
        | inl here ↦
            (let z = only s.number n.1 in
            let c : sum_by (λ (x : Stake). one (x.number == s.number)) (s ∷ ss) ≡ one (s.number == s.number) + sum_by
            (λ (x : Stake). one (x.number == s.number)) ss =
            sum_by-cons (λ (x : Stake). one (x.number == s.number)) s ss in
            let d : one (s.number == s.number) ≡ 1 = ap one here.0 in
            absurd (omega arith))
        | inr never ↦ absurd (never.1 refl)
      ]
    ]

-- a stake that is there isn't below the least one
least_at_most : (r : ℕ) (ss : List Stake) → 0 < sum_by (λ (s : Stake). one (s.number == r)) ss → least_stake ss ≤ r
least_at_most r [] has = absurd (omega arith)
least_at_most r (s ∷ ss) has = elim (eqb_tells s.number r) [
  | inl y ↦ omega arith
  | inr n ↦
      (let c = sum_by-cons (λ (x : Stake). one (x.number == r)) s ss in
      let d : one (s.number == r) ≡ 0 = ap one n.0 in
      let again = least_at_most r ss (omega arith) in
      omega arith)
]

-- the least stake of a worker's seat is its thread's
pub least_is : (thread : ℕ) (v : View) → HoldsStake thread v → 0 < stake_of v thread → (least_stake v.stakes ≡ thread) × HasStake v
least_is thread v holds has =
    let small = holds.small in
    let a = least_from thread v.stakes (omega arith) holds.only in
    let b = least_at_most thread v.stakes has in
    (omega arith, omega arith)

-- what a worker owes may be added
pub can_settle : (owed : List Owed) (s : StockValue) → HoldsStake s.thread s.view → HasItsStake s → IsCovered owed s →
    CanSettleAll owed s.view
can_settle owed s holds stake covered =
    let least = least_is s.thread s.view holds stake in
    record {
      stake = least.1;
      covered = λ q. subst (λ (n : ℕ). sum_by (added_as q) (log_of n s.view) + owed_in q owed ≤ sum_by (owes_as q) (log_of n s.view))
          (sym least.0) (covered stake q);
    }

-- by the rule of the region no log added more than its steps owe
pub covered_by_rule : (s : StockValue) → HoldsStake s.thread s.view → IsAware s.view → IsCovered none_owed s
covered_by_rule s holds aware has q =
    let least = least_is s.thread s.view holds has in
    let r = least_stake s.view.stakes in
    let mine : stake_of s.view s.thread ≡ 1 = let a = aware.stake_once s.thread in omega arith in
    let there : stake_of s.view r ≡ 1 = subst (λ (n : ℕ). stake_of s.view n ≡ 1) (sym least.0) mine in
    let once : stakes_in (s.view ∷ []) r ≡ 1 = omega arith in
    let a = own_log (added_as q) (s.view ∷ []) 0 s.view refl least.1 once in
    let b = own_log (owes_as q) (s.view ∷ []) 0 s.view refl least.1 once in
    let c = aware.covered r q in
    let d : sum_by (added_as q) (least_log s.view.stakes) ≤ sum_by (owes_as q) (least_log s.view.stakes) = omega arith in
    let e : sum_by (added_as q) (log_of s.thread s.view) ≤ sum_by (owes_as q) (log_of s.thread s.view) =
    subst (λ (n : ℕ). sum_by (added_as q) (log_of n s.view) ≤ sum_by (owes_as q) (log_of n s.view)) least.0 d in
    let n = none_owed_in q in
    omega arith
