-- Raw bytes and leases when a part of them is handed over.
use Rattle.std.proofs.Common.{◌≡◌, ℕ, ◌+◌, ◌*◌, ◌<◌, ◌≤◌, Bool, true, false, ◌&&◌, List, [], ◌∷◌, refl, sym, arith, inl, inr, leb, eqb}
use Rattle.std.specs.List.{sum_by, filter}
use Rattle.std.proofs.lemmas.List.Sums.{sum_by-cons, sum_by-append, sum_by-le-sum_by}
use Rattle.std.proofs.lemmas.Bool.{cases_lt, le-leb, lt-leb, true≢false}
use Rattle.pa_slot.specs.Holdings.{RawByte, FreeTitle, OwnOf, RefOf, one, amount}
use Rattle.pa_region.specs.declared.view.RawRange.{RawRange}
use Rattle.pa_region.specs.declared.view.Stake.{Stake}
use Rattle.pa_region.specs.declared.view.View.{View}
use Rattle.pa_region.specs.Views.{low_of, raw_piece}
use Rattle.pa_region.specs.Lists.{keeper_of, lease_of}
use Rattle.pa_region.specs.Hands.{inside, outside, left_after, given_after, CanHand, IsParted}
use Rattle.pa_region.specs.Lending.{Keeps}
use Rattle.pa_region.proofs.Adding.{one_small, one_and, sum_same}
use Rattle.pa_region.proofs.Parting.{has_byte, ranges_part}
use Rattle.pa_region.proofs.Pieces.{held_split, frees_have, owns_have, refs_have}
use Rattle.pa_region.proofs.Stays.{low_held}
use Rattle.pa_region.proofs.HandStep.{hand_parts}
use Rattle.pa_region.proofs.Cutting.{outside_none, inside_none, inside_low}
use Rattle.pa_pool.specs.Pools.{IsByteOf, HasNoTitle}
use Rattle.pa_pool.specs.Calls.{run_parcel, HasRaw, HasNoOther, RunsAreHanded}
use Rattle.pa_pool.proofs.Runs.{byte_apart}
use Rattle.pa_region.proofs.LendBack.{no_keepers}

-- more ranges have a floor of at most a greater number
pub low_rises : (v : View) (b m n : ℕ) → m ≤ n → low_of v b m ≤ low_of v b n
low_rises v b m n less =
    sum_by-le-sum_by (λ (r : RawRange). one (has_byte r b && leb r.floor m)) (λ (r : RawRange). one (has_byte r b && leb r.floor n)) v.raws
    (λ r. each (has_byte r b) r.floor)
  where
    each : (x : Bool) (floor : ℕ) → one (x && leb floor m) ≤ one (x && leb floor n)
    each false floor = omega arith
    each true floor = elim (cases_lt m floor) [
      | inl y ↦ let z : leb floor m ≡ false = lt-leb floor m y in rw z (omega arith)
      | inr k ↦ let z : leb floor n ≡ true = le-leb floor n (omega arith) in rw z (one_small (leb floor m))
    ]

-- none of a byte that is given is left, at whatever floor
outside_low : (a e b n : ℕ) (rs : List RawRange) → a ≤ b → b < e → sum_by (λ r. one (has_byte r b && leb r.floor n)) (outside a e rs) ≡ 0
outside_low a e b n rs low high =
    let z = outside_none a e b rs low high in
    let l = sum_by-le-sum_by (λ r. one (has_byte r b && leb r.floor n)) (λ r. one (has_byte r b)) (outside a e rs)
    (λ r. one_and (has_byte r b) (leb r.floor n)) in
    omega arith

-- of such a byte the note has what the view had
given_low : (first count index b n : ℕ) (v : View) → IsByteOf first count b →
    low_of (given_after (run_parcel first count index) v) b n ≡ low_of v b n
given_low first count index b n v within =
    let a = 2097152 * first in let e = 2097152 * first + 2097152 * count in
    let w0 = within.0 in let w1 = within.1 in
    let p = ranges_part a e b (λ r. leb r.floor n) (omega arith) (λ r. refl) (λ r. refl) (λ r. refl) v.raws in
    let o = outside_low a e b n v.raws (omega arith) (omega arith) in
    let z = sum_by-append (λ (r : RawRange). one (has_byte r b && leb r.floor n)) (inside a e v.raws) [] in
    omega arith

-- of another byte it has nothing
other_low : (first count index b n : ℕ) (v : View) → (IsByteOf first count b → ⊥) →
    low_of (given_after (run_parcel first count index) v) b n ≡ 0
other_low first count index b n v out =
    let a = 2097152 * first in let e = 2097152 * first + 2097152 * count in
    let far = inside_low a e b n v.raws (byte_apart first count b out) in
    let z = sum_by-append (λ (r : RawRange). one (has_byte r b && leb r.floor n)) (inside a e v.raws) [] in
    omega arith

pub given_other : (first count index : ℕ) (v : View) → HasNoOther first count (given_after (run_parcel first count index) v)
given_other first count index v b out =
    let g = given_after (run_parcel first count index) v in
    let a = 2097152 * first in let e = 2097152 * first + 2097152 * count in
    let far = inside_none a e b v.raws (byte_apart first count b out) in
    let s = held_split g (RawByte b) in
    let z = sum_by-append (λ (r : RawRange). amount (RawByte b) (raw_piece r)) (inside a e v.raws) [] in
    let y = sum_same (λ (r : RawRange). one (has_byte r b)) (λ (r : RawRange). amount (RawByte b) (raw_piece r)) (inside a e v.raws)
    (λ r. refl) in
    omega arith

-- the note has what is required of it
pub given_raw : (first count index floor b : ℕ) (v : View) → IsByteOf first count b → 0 < low_of v b floor →
    0 < low_of (given_after (run_parcel first count index) v) b floor
given_raw first count index floor b v within has = let e = given_low first count index b floor v within in omega arith

-- bytes outside of the run stay as they were with the giver
pub left_raw : (first count index floor b : ℕ) (v : View) →
    IsParted v (left_after (run_parcel first count index) v) (given_after (run_parcel first count index) v) →
    (IsByteOf first count b → ⊥) → low_of (left_after (run_parcel first count index) v) b floor ≡ low_of v b floor
left_raw first count index floor b v parted out = let e = other_low first count index b floor v out in let f = parted.floors b floor in
    omega arith

-- the note of a run has this lease alone
pub given_lease : (first count index n : ℕ) (v : View) → lease_of (given_after (run_parcel first count index) v) n ≡ one (eqb index n)
given_lease first count index n v = let c = sum_by-cons (λ l. one (eqb l n)) index [] in omega arith

pub given_keeper : (first count index k : ℕ) (v : View) → keeper_of (given_after (run_parcel first count index) v) k ≡ 0
given_keeper first count index k v = no_keepers k v.keepers

-- a view that keeps what has no title has none
pub no_title_kept : (v w : View) → Keeps v w → HasNoTitle v → HasNoTitle w
no_title_kept v w k none t =
    let f = k.things (FreeTitle t) in let o = k.things (OwnOf t) in let r = k.things (RefOf t) in
    let f1 = frees_have v t in let o1 = owns_have v t in let r1 = refs_have v t in
    let f2 = frees_have w t in let o2 = owns_have w t in let r2 = refs_have w t in
    let n = none t in
    omega arith

-- a filter that passes no stake leaves none with number k
none_staked : (k : ℕ) (ss : List Stake) → sum_by (λ (s : Stake). one (eqb s.number k)) (filter (λ (s : Stake). false) ss) ≡ 0
none_staked k [] = refl
none_staked k (s ∷ ss) = none_staked k ss

can_hand : (first count floor n : ℕ) (v : View) → HasRaw first count floor v → 0 < lease_of v n → CanHand (run_parcel first count n) v
can_hand first count floor n v raw lease = record {
  items = ((omega arith, omega arith, (λ b low high. let l = raw b (low, omega arith) in let r = low_held v b floor in omega arith)), tt);
  budget = omega arith;
  leases = (lease, tt);
  clean = λ k is. absurd (true≢false (sym is));
}

pub handed : RunsAreHanded
handed = record {
  able = can_hand;
  given = λ first count floor n v raw. record {
    raw = λ b within. given_raw first count n floor b v within (raw b within);
    leases = λ m. given_lease first count n m v;
    stakes = λ k. none_staked k v.stakes;
    keepers = λ k. given_keeper first count n k v;
    titles = λ t. refl;
    budget = refl;
  };
  only = λ first count n v. given_other first count n v;
  bytes = λ first count n b m v can out. left_raw first count n m b v (hand_parts (run_parcel first count n) v can) out;
  leases = λ first count n m v can. let p = (hand_parts (run_parcel first count n) v can).leases m in
      let g = given_lease first count n m v in omega arith;
}
