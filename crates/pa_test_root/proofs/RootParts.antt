-- The parts into which a test divides a new region: the root's note and the pool's.
use Rattle.std.proofs.Common.{◌≡◌, ℕ, ◌+◌, ◌*◌, ◌<◌, ◌≤◌, Bool, true, false, [], ◌∷◌, refl, sym, ap, arith, inl, inr}
use Rattle.std.specs.Prelude.{◌==◌, ◌&&◌, nat_le, nat_lt}
use Rattle.std.specs.List.{sum_by}
use Rattle.std.proofs.lemmas.Bool.{lt-ltb, le-leb}
use Rattle.std.proofs.lemmas.List.Sums.{sum_by-cons}
use Rattle.pa_slot.specs.Holdings.{one}
use Rattle.std.proofs.lemmas.Bool.Decides.{eqb_tells}
use Rattle.pa_region.specs.declared.marks.Mark.TheVariants.{Keeper as KeeperMark}
use Rattle.pa_region.specs.declared.view.Keeper.{Keeper}
use Rattle.pa_region.specs.declared.view.RawRange.{RawRange}
use Rattle.pa_region.specs.declared.view.View.{View}
use Rattle.pa_region.specs.Views.{low_of}
use Rattle.pa_region.specs.Lists.{keeper_of, lease_of}
use Rattle.pa_region.specs.Hands.{Parcel, left_after, given_after}
use Rattle.pa_region.specs.Marks.{parcel_of}
use Rattle.pa_region.specs.Start.{first_view}
use Rattle.pa_pool.specs.Pools.{CanOpen}
use Rattle.pa_root.specs.Laws.{IsFirstView}
use Rattle.pa_test_root.proofs.RootNotes.{others}

abbrev pub root_parcel : Parcel
root_parcel = parcel_of [] 0 (KeeperMark 0 ∷ [])

-- what is left when the caller's seat has its own
abbrev pub without_others : ℕ → View
without_others words = left_after (parcel_of [] 0 others) (first_view words 0)

-- what the root gets
pub root_part : (words : ℕ) → IsFirstView 0 (given_after root_parcel (without_others words))
root_part words =
    let has : keeper_of (given_after root_parcel (without_others words)) 0 ≡ 1 = refl in
    record {
      partition = omega arith;
      hosts = ((λ k. refl, refl), omega arith);
      empty = refl;
      frees = λ t. refl;
      handles = λ t. refl;
      budget = refl;
    }

-- what the pool gets of the first view
abbrev pool_part : ℕ → View
pool_part words = left_after root_parcel (without_others words)

low_there : (words b : ℕ) → b < 8 * words → 0 < low_of (pool_part words) b 0
low_there words b below =
    let c : low_of (pool_part words) b 0 ≡ one ((nat_le 0 b && nat_lt b (0 + 8 * words)) && nat_le 0 0) + 0
    = sum_by-cons (λ (r : RawRange). one ((nat_le r.start b && nat_lt b (r.start + r.len)) && nat_le r.floor 0))
    (record { start = 0; len = 8 * words; floor = 0 }) [] in
    let d : one ((nat_le 0 b && nat_lt b (0 + 8 * words)) && nat_le 0 0) ≡ 1 =
    both (nat_le 0 b) (nat_lt b (0 + 8 * words)) (le-leb 0 b (omega arith)) (lt-ltb b (0 + 8 * words) (omega arith)) in
    omega arith
  where
    both : (x y : Bool) → x ≡ true → y ≡ true → one ((x && y) && nat_le 0 0) ≡ 1
    both true true e f = refl
    both true false e f = cc
    both false y e f = cc

lease_there : (words n : ℕ) → 0 < lease_of (pool_part words) n
lease_there words n =
    let c : sum_by (λ f. one (nat_le f n)) (0 ∷ []) ≡ one (nat_le 0 n) + 0 = sum_by-cons (λ f. one (nat_le f n)) 0 [] in
    let e : lease_of (pool_part words) n ≡ 0 + sum_by (λ f. one (nat_le f n)) (0 ∷ []) = refl in
    let d : one (nat_le 0 n) ≡ 1 = ap one (le-leb 0 n (omega arith)) in
    omega arith

one_keeper : (words k : ℕ) → (k ≡ 4 → ⊥) → keeper_of (pool_part words) k ≡ 0
one_keeper words k other =
    let c : keeper_of (pool_part words) k ≡ one (4 == k) + 0 =
    sum_by-cons (λ (q : Keeper). one (q.number == k)) (record { number = 4; entries = [] }) [] in
    elim (eqb_tells 4 k) [
      | inl y ↦ absurd (other (sym y.1))
      | inr n ↦ (let d : one (4 == k) ≡ 0 = ap one n.0 in omega arith)
    ]

pub pool_opens : (supers words : ℕ) → words ≡ 262144 * supers → supers ≤ 16 → CanOpen supers (left_after root_parcel (without_others words))
pool_opens supers words long few =
    let has : keeper_of (pool_part words) 4 ≡ 1 = refl in
    record {
      few = omega arith;
      raw = λ b below. low_there words b (omega arith);
      keeper = omega arith;
      list = refl;
      leases = lease_there words;
      stakes = λ k. refl;
      more = record { titles = λ t. refl; budget = refl; keepers = one_keeper words };
    }
