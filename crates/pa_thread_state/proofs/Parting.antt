-- What the first seat of a region is parted into.
use Rattle.std.proofs.Common.{◌≡◌, ℕ, zero, suc, ◌+◌, ◌-◌, ◌*◌, ◌<◌, ◌≤◌, [], ◌∷◌, refl, sym, ◌∙◌, ap, arith, inl, inr, length}
use Rattle.std.specs.Prelude.{◌==◌, ◌&&◌, nat_le, nat_lt, Bool, true, false, if◌then◌else◌}
use Rattle.std.specs.List.{sum_by}
use Rattle.std.proofs.lemmas.Bool.{le-leb, lt-ltb}
use Rattle.std.proofs.lemmas.List.Sums.{sum_by-cons}
use Rattle.std.proofs.lemmas.Bool.Decides.{eqb_tells}
use Rattle.pa_slot.specs.Holdings.{one}
use Rattle.pa_region.specs.declared.view.RawRange.{RawRange}
use Rattle.pa_region.specs.declared.view.Keeper.{Keeper}
use Rattle.pa_region.specs.declared.view.View.{View}
use Rattle.pa_region.specs.Views.{low_of, stake_of, HasEveryStake}
use Rattle.pa_region.specs.Pairs.{log_among}
use Rattle.pa_region.specs.Lists.{keeper_of, lease_of, list_of}
use Rattle.pa_region.specs.Lending.{HostsKeeper}
use Rattle.pa_region.specs.Hands.{left_after, given_after}
use Rattle.pa_region.specs.Start.{first_view, stakes_from}
use Rattle.pa_region.specs.Shares.{Share, byte_word_count}
use Rattle.pa_region.proofs.FirstLists.{stake_count}
use Rattle.pa_region.proofs.Opens.{blank_long}
use Rattle.pa_pool.specs.Pools.{CanOpen}
use Rattle.pa_root.specs.Laws.{IsFirstView}
use Rattle.pa_thread_state.specs.Starts.{HasAllStakes, keeper_parcel, stakes_parcel}

-- the first view, without the keepers of the roots one after the other, without that of the cells, and without stakes and budget
abbrev pub without_first : ℕ → ℕ → View
without_first words budget = left_after (keeper_parcel 0) (first_view words budget)

abbrev pub without_second : ℕ → ℕ → View
without_second words budget = left_after (keeper_parcel 1) (without_first words budget)

abbrev pub without_third : ℕ → ℕ → View
without_third words budget = left_after (keeper_parcel 2) (without_second words budget)

abbrev pub without_roots : ℕ → ℕ → View
without_roots words budget = left_after (keeper_parcel 3) (without_third words budget)

abbrev pub without_cells : ℕ → ℕ → View
without_cells words budget = left_after (keeper_parcel 5) (without_roots words budget)

abbrev pub for_pool : ℕ → ℕ → View
for_pool words budget = left_after (stakes_parcel budget) (without_cells words budget)

-- what the roots get
pub first_root : (words budget : ℕ) → IsFirstView 0 (given_after (keeper_parcel 0) (first_view words budget))
first_root words budget =
    let has : keeper_of (given_after (keeper_parcel 0) (first_view words budget)) 0 ≡ 1 = refl in
    record {
      partition = omega arith;
      hosts = ((λ k. refl, refl), omega arith);
      empty = refl;
      frees = λ t. refl;
      handles = λ t. refl;
      budget = refl;
    }

pub second_root : (words budget : ℕ) → IsFirstView 1 (given_after (keeper_parcel 1) (without_first words budget))
second_root words budget =
    let has : keeper_of (given_after (keeper_parcel 1) (without_first words budget)) 1 ≡ 1 = refl in
    record {
      partition = omega arith;
      hosts = ((λ k. refl, refl), omega arith);
      empty = refl;
      frees = λ t. refl;
      handles = λ t. refl;
      budget = refl;
    }

pub third_root : (words budget : ℕ) → IsFirstView 2 (given_after (keeper_parcel 2) (without_second words budget))
third_root words budget =
    let has : keeper_of (given_after (keeper_parcel 2) (without_second words budget)) 2 ≡ 1 = refl in
    record {
      partition = omega arith;
      hosts = ((λ k. refl, refl), omega arith);
      empty = refl;
      frees = λ t. refl;
      handles = λ t. refl;
      budget = refl;
    }

pub fourth_root : (words budget : ℕ) → IsFirstView 3 (given_after (keeper_parcel 3) (without_third words budget))
fourth_root words budget =
    let has : keeper_of (given_after (keeper_parcel 3) (without_third words budget)) 3 ≡ 1 = refl in
    record {
      partition = omega arith;
      hosts = ((λ k. refl, refl), omega arith);
      empty = refl;
      frees = λ t. refl;
      handles = λ t. refl;
      budget = refl;
    }

-- what the cells get
pub cells_part : (words budget : ℕ) →
    HostsKeeper 5 (given_after (keeper_parcel 5) (without_roots words budget)) ×
    (list_of 5 (given_after (keeper_parcel 5) (without_roots words budget)) ≡ [])
cells_part words budget =
    let has : keeper_of (given_after (keeper_parcel 5) (without_roots words budget)) 5 ≡ 1 = refl in
    (((λ k. refl, refl), omega arith), refl)

-- a byte of this many words is raw in the pool's part, with the floor 0
low_there : (words budget b : ℕ) → b < 8 * words → 0 < low_of (for_pool words budget) b 0
low_there words budget b below =
    let c : low_of (for_pool words budget) b 0 ≡ one ((nat_le 0 b && nat_lt b (0 + 8 * words)) && nat_le 0 0) + 0
    = sum_by-cons (λ (r : RawRange). one ((nat_le r.start b && nat_lt b (r.start + r.len)) && nat_le r.floor 0))
    (record { start = 0; len = 8 * words; floor = 0 }) [] in
    let d : one ((nat_le 0 b && nat_lt b (0 + 8 * words)) && nat_le 0 0) ≡ 1 =
    both (nat_le 0 b) (nat_lt b (0 + 8 * words)) (le-leb 0 b (omega arith)) (lt-ltb b (0 + 8 * words) (omega arith)) in
    omega arith
  where
    both : (x y : Bool) → x ≡ true → y ≡ true → one ((x && y) && nat_le 0 0) ≡ 1
    both true true e f = refl
    both true false e f = cc
    both false y e f = cc

lease_there : (words budget n : ℕ) → 0 < lease_of (for_pool words budget) n
lease_there words budget n =
    let c : sum_by (λ f. one (nat_le f n)) (0 ∷ []) ≡ one (nat_le 0 n) + 0 = sum_by-cons (λ f. one (nat_le f n)) 0 [] in
    let e : lease_of (for_pool words budget) n ≡ 0 + sum_by (λ f. one (nat_le f n)) (0 ∷ []) = refl in
    let d : one (nat_le 0 n) ≡ 1 = ap one (le-leb 0 n (omega arith)) in
    omega arith

one_keeper : (words budget k : ℕ) → (k ≡ 4 → ⊥) → keeper_of (for_pool words budget) k ≡ 0
one_keeper words budget k other =
    let c : keeper_of (for_pool words budget) k ≡ one (4 == k) + 0 =
    sum_by-cons (λ (q : Keeper). one (q.number == k)) (record { number = 4; entries = [] }) [] in
    elim (eqb_tells 4 k) [
      | inl y ↦ absurd (other (sym y.1))
      | inr n ↦ (let d : one (4 == k) ≡ 0 = ap one n.0 in omega arith)
    ]

spent : (budget : ℕ) → (((((budget - 0) - 0) - 0) - 0) - 0) - budget ≡ 0
spent budget = omega arith

-- the pool gets all bytes, its keeper and every lease
pub pool_opens : (supers words budget : ℕ) → words ≡ 262144 * supers → supers ≤ 64 → CanOpen supers (for_pool words budget)
pool_opens supers words budget long few =
    let has : keeper_of (for_pool words budget) 4 ≡ 1 = refl in
    record {
      few = few;
      raw = λ b below. low_there words budget b (omega arith);
      keeper = omega arith;
      list = refl;
      leases = lease_there words budget;
      stakes = λ k. refl;
      more = record { titles = λ t. refl; budget = spent budget; keepers = one_keeper words budget };
    }

-- a region has as many words as the first view has of it
pub whole_region : (supers budget : ℕ) (s : Share) → s.view ≡ first_view (262144 * supers) budget →
    length s.view.words ≡ byte_word_count s.region → byte_word_count s.region ≡ 262144 * supers
whole_region supers budget s is long = sym long ∙ (ap (λ (v : View). length v.words) is ∙ blank_long (262144 * supers))

-- the budget goes with the stakes
pub budget_there : (words budget : ℕ) → budget ≤ (without_cells words budget).budget
budget_there words budget = has budget
  where
    has : (n : ℕ) → n ≤ ((((n - 0) - 0) - 0) - 0) - 0
    has n = omega arith

-- the logs of stakes from one number on are empty
no_logs : (from count k : ℕ) → log_among k (stakes_from from count) ≡ []
no_logs from zero k = refl
no_logs from (suc count) k = go (from == k) (no_logs (suc from) count k)
  where
    go : (b : Bool) → log_among k (stakes_from (suc from) count) ≡ [] → (if b then [] else log_among k (stakes_from (suc from) count)) ≡ []
    go true again = refl
    go false again = again

-- the seat that comes back from an opening has every stake
pub stakes_are_all : (words budget : ℕ) → HasAllStakes budget (given_after (stakes_parcel budget) (without_cells words budget))
stakes_are_all words budget = record {
  all = refl;
  stakes = every;
  clean = refl;
  logs = λ k. no_logs 0 16 k;
  budget_is = refl;
  titles = λ t. refl;
  raws = λ b. refl;
  keepers = λ k. refl;
  leases = λ n. refl;
  seen = λ t. refl;
  lists = λ k. refl;
}
  where
    every : HasEveryStake (given_after (stakes_parcel budget) (without_cells words budget))
    every k small = elim (stake_count 0 16 k) [
      | inl y ↦ (let e : stake_of (given_after (stakes_parcel budget) (without_cells words budget)) k ≡ 1 = y.2 in omega arith)
      | inr n ↦ absurd (n.0 (omega arith, omega arith))
    ]
