-- Where the list of a partition and a class is, among those of a version.
use Rattle.std.proofs.Common.{◌≡◌, ℕ, ◌+◌, ◌-◌, ◌*◌, ◌/◌, ◌%◌, ◌<◌, ◌≤◌, Bool, true, false, [], refl, arith}
use Rattle.std.specs.Prelude.{nat_le, if◌then◌else◌, slice_index_or}
use Rattle.pa_buckets.specs.Limits.{first_class}
use Rattle.pa_rules.specs.Sizes.{HasClass, class_total}
use Rattle.pa_rules.proofs.Versions.{class_yes, class_no}
use Rattle.pa_rules.specs.Lists.{cache_place}
use Rattle.pa_op_specs.specs.Stocks.{WorkerLists, no_cache, titles_in}

-- each place is of some partition and class
pub record IsPlaceOf (version k : ℕ) : Type 0 where
  pub partition : ℕ
  pub class : ℕ
  pub low : partition < 4
  pub real : HasClass version class
  pub place : cache_place version partition class ≡ k

index_by : (b : Bool) (k : ℕ) → k < 4 * ((if b then 59 else 170) - (if b then 0 else 59)) → (p c : ℕ) × (p < 4)
    × ((if b then 0 else 59) ≤ c) × (c < (if b then 59 else 170))
    × (p * ((if b then 59 else 170) - (if b then 0 else 59)) + (c - (if b then 0 else 59)) ≡ k)
index_by true k low = (k / 59, k % 59, omega (arith, low), omega arith, omega arith, omega arith)
index_by false k low = (k / 111, 59 + k % 111, omega (arith, low), omega arith, omega arith, omega arith)

pub place_of_index : (version k : ℕ) → k < 4 * class_total version → IsPlaceOf version k
place_of_index version k low =
    let at = index_by (nat_le version 1) k low in
    record { partition = at.0; class = at.1; low = at.2; real = (at.3, at.4); place = at.5 }

-- the class in turn at a place is the one of whose list it is
class_by : (b : Bool) (p c : ℕ) → (if b then 0 else 59) ≤ c → c < (if b then 59 else 170)
    → (if b then 0 else 59) + (p * ((if b then 59 else 170) - (if b then 0 else 59)) + (c - (if b then 0 else 59))) % ((if
    b then 59 else 170) - (if b then 0 else 59)) ≡ c
class_by true p c from real = omega (arith, real)
class_by false p c from real = omega (arith, from, real)

pub class_in_turn : (version p c : ℕ) → HasClass version c → first_class version + cache_place version p c % class_total version ≡ c
class_in_turn version p c h = class_by (nat_le version 1) p c h.0 h.1

-- each class in turn is one of the version's
turn_by : (b : Bool) (k : ℕ) → ((if b then 0 else 59) ≤ (if b then 0 else 59) + k % ((if b then 59 else 170) - (if b then 0 else 59)))
    × ((if b then 0 else 59) + k % ((if b then 59 else 170) - (if b then 0 else 59)) < (if b then 59 else 170))
turn_by true k = (omega arith, omega arith)
turn_by false k = (omega arith, omega arith)

pub turn_real : (version k : ℕ) → HasClass version (first_class version + k % class_total version)
turn_real version k = turn_by (nat_le version 1) k

-- the titles of a list are those of the cache at its place, and none without a class
pub titles_here : (caches : WorkerLists) (p c : ℕ) → HasClass caches.version c
    → titles_in caches p c ≡ (slice_index_or caches.lists (cache_place caches.version p c) no_cache).titles
titles_here caches p c h = rw (class_yes caches.version c h) refl

pub titles_none : (caches : WorkerLists) (p c : ℕ) → (HasClass caches.version c → ⊥) → titles_in caches p c ≡ []
titles_none caches p c none = rw (class_no caches.version c none) refl
