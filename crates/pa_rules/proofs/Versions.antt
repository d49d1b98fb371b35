-- What is known of the classes of a version, and of the direct maps in it.
use Rattle.std.proofs.Common.{◌≡◌, ℕ, ◌+◌, ◌-◌, ◌*◌, ◌<◌, ◌≤◌, ◌⊎◌, max, Bool, true, false, refl, sym, subst, arith, inl, inr}
use Rattle.std.specs.Prelude.{nat_le, nat_lt, if◌then◌else◌}
use Rattle.std.proofs.lemmas.Bool.{cases_order, cases_lt, and_from, and_left, and_right, le-leb, lt-leb, lt-ltb, le-ltb}
use Rattle.std.proofs.lemmas.Nat.{mul-add-lt}
use Rattle.pa_buckets.specs.Limits.{first_class, past_class, greatest_raw}
use Rattle.pa_buckets.specs.Table.{slot_of}
use Rattle.pa_buckets.specs.Classes.{IsClassIn}
use Rattle.pa_buckets.proofs.Facts.{IsRow-of, IsRow_1-of, slot_of-rises, slot_of-rises_2}
use Rattle.pa_direct.specs.Shapes.{shape_of, IsDirectSize}
use Rattle.pa_rules.specs.Lists.{cache_place}
use Rattle.pa_rules.specs.Sizes.{HasClass, is_class, class_total, most_with_class, IsMapSize}

real_by : (b : Bool) (c : ℕ) → c < (if b then 59 else 170) → c < 170
real_by true c real = omega arith
real_by false c real = real

slot_by : (b : Bool) (c : ℕ) → c < (if b then 59 else 170) → slot_of c ≤ (if b then 917504 else 983040)
slot_by true c real = (IsRow_1-of c real).greatest_slot
slot_by false c real = (IsRow-of c real).greatest_slot

rises_by : (b : Bool) (c d : ℕ) → (if b then 0 else 59) ≤ c → c < d → d < (if b then 59 else 170) → slot_of c < slot_of d
rises_by true c d low less real = slot_of-rises c d less real
rises_by false c d low less real = slot_of-rises_2 c d low less real

raw_by : (b : Bool) → 917504 ≤ (if b then 917504 else 983040)
raw_by true = omega arith
raw_by false = omega arith

most_by : (b : Bool) → (if b then 917504 else 983040) ≤ 983040
most_by true = omega arith
most_by false = omega arith

-- the greatest raw size that has a class, in the version for which it is least and in the others
pub raw_least : (version : ℕ) → 917504 ≤ greatest_raw version
raw_least version = raw_by (nat_le version 1)

pub raw_most : (version : ℕ) → greatest_raw version ≤ 983040
raw_most version = most_by (nat_le version 1)

-- a class of a version is one of all classes
pub real_in : (version c : ℕ) → HasClass version c → c < 170
real_in version c h = real_by (nat_le version 1) c h.1

-- its slots are at most the greatest of the version
pub slot_in : (version c : ℕ) → HasClass version c → slot_of c ≤ greatest_raw version
slot_in version c h = slot_by (nat_le version 1) c h.1

-- a raw size that has a class is at most the greatest one
pub raw_in : (version raw c : ℕ) → IsClassIn version raw c → raw ≤ greatest_raw version
raw_in version raw c of = let most = slot_in version c (of.from, of.real) in let fits = of.fits in omega arith

-- slot sizes rise in a version
pub slots_rise : (version c d : ℕ) → HasClass version c → HasClass version d → c < d → slot_of c < slot_of d
slots_rise version c d h k less = rises_by (nat_le version 1) c d h.0 less k.1

-- classes of a version with slots of one length are one
pub one_length : (version c d : ℕ) → HasClass version c → HasClass version d → slot_of c ≡ slot_of d → c ≡ d
one_length version c d h k same = elim (cases_order c d) [
  | inl e ↦ e
  | inr (inl less) ↦ absurd (let up = slots_rise version c d h k less in omega arith)
  | inr (inr more) ↦ absurd (let up = slots_rise version d c k h more in omega arith)
]

-- a request for a direct map of a version is one for a direct map
pub direct_in : (version size : ℕ) → IsMapSize version size → IsDirectSize size
direct_in version size (large, within) = let raw = raw_by (nat_le version 1) in (omega arith, within)

-- a direct map of a version is longer than the slots of its classes
pub long_in : (version size : ℕ) → IsMapSize version size → greatest_raw version < (shape_of size).slot
long_in version size (large, within) = omega arith

-- a request for a direct map has no class
pub has_no_class : (version size c : ℕ) → IsMapSize version size → IsClassIn version (max size 1 + 8) c → ⊥
has_no_class version size c direct of =
    let most = slot_in version c (of.from, of.real) in
    let fits = of.fits in
    let large = direct.0 in
    let raw = raw_by (nat_le version 1) in
    omega arith

-- ---- the classes one after the other

-- a version has a class or not
pub class_cases : (version c : ℕ) → HasClass version c ⊎ (HasClass version c → ⊥)
class_cases version c = elim (cases_lt c (first_class version)) [
  | inl low ↦ inr (λ h. let from = h.0 in omega arith)
  | inr from ↦ elim (cases_lt c (past_class version)) [
    | inl real ↦ inl (from, real)
    | inr past ↦ inr (λ h. let real = h.1 in omega arith)
  ]
]

pub class_yes : (version c : ℕ) → HasClass version c → is_class version c ≡ true
class_yes version c h = and_from _ _ (le-leb (first_class version) c h.0) (lt-ltb c (past_class version) h.1)

pub class_no : (version c : ℕ) → (HasClass version c → ⊥) → is_class version c ≡ false
class_no version c none = elim (cases_lt c (first_class version)) [
  | inl low ↦ and_left (nat_le (first_class version) c) (nat_lt c (past_class version)) (lt-leb (first_class version) c low)
  | inr from ↦ elim (cases_lt c (past_class version)) [
    | inl real ↦ absurd (none (from, real))
    | inr past ↦ and_right (nat_le (first_class version) c) (nat_lt c (past_class version)) (le-ltb c (past_class version) past)
  ]
]

total_by : (b : Bool) → (if b then 0 else 59) + ((if b then 59 else 170) - (if b then 0 else 59)) ≡ (if b then 59 else 170)
total_by true = refl
total_by false = refl

few_by : (b : Bool) → (if b then 59 else 170) - (if b then 0 else 59) ≤ 111
few_by true = omega arith
few_by false = omega arith

rest_by : (b : Bool) → (if b then 0 else 59) + (((if b then 59 else 170) - (if b then 0 else 59)) + (170 - (if b then 59 else 170))) ≡ 170
rest_by true = refl
rest_by false = refl

-- as many classes as it has follow its first one
pub class_end : (version : ℕ) → first_class version + class_total version ≡ past_class version
class_end version = total_by (nat_le version 1)

pub class_few : (version : ℕ) → class_total version ≤ 111
class_few version = few_by (nat_le version 1)

some_by : (b : Bool) → 0 < (if b then 59 else 170) - (if b then 0 else 59)
some_by true = omega arith
some_by false = omega arith

-- a version has classes
pub class_some : (version : ℕ) → 0 < class_total version
class_some version = some_by (nat_le version 1)

-- those before it, its own, and those after it are all classes
pub class_parts : (version : ℕ) → first_class version + (class_total version + (170 - past_class version)) ≡ 170
class_parts version = rest_by (nat_le version 1)

-- a class by its place among those of its version
pub class_among : (version c : ℕ) → HasClass version c → c - first_class version < class_total version
class_among version c h = let end = class_end version in let from = h.0 in let real = h.1 in omega arith

row_by : (b : Bool) (a d c e : ℕ) → (if b then 0 else 59) ≤ c → c < (if b then 59 else 170) → (if b then 0 else 59) ≤ e →
    e < (if b then 59 else 170)
    → a * ((if b then 59 else 170) - (if b then 0 else 59)) + (c - (if b then 0 else 59)) ≡ d * ((if b then 59 else 170) - (if
    b then 0 else 59)) + (e - (if b then 0 else 59))
    → (a ≡ d) × (c ≡ e)
row_by true a d c e low high down up is = (omega (arith, high, up, is), omega (arith, high, up, is))
row_by false a d c e low high down up is = (omega (arith, low, high, down, up, is), omega (arith, low, high, down, up, is))

-- rows of as many places as the version has classes: one place is of one row and class
pub one_place : (version p c q d : ℕ) → HasClass version c → HasClass version d → cache_place version p c ≡ cache_place version q d →
    (p ≡ q) × (c ≡ d)
one_place version p c q d h k is = row_by (nat_le version 1) p q c d h.0 h.1 k.0 k.1 is

-- so many rows have as many places
pub place_within : (version rows row c : ℕ) → row < rows → HasClass version c → cache_place version row c < rows * class_total version
place_within version rows row c low real =
    let within = mul-add-lt row (class_total version) (c - first_class version) rows low (class_among version c real) in
    omega (arith, within)

-- ---- version 1

-- what a size asks for in a version that is 1
pub class_first : (version raw c : ℕ) → version ≡ 1 → IsClassIn 1 raw c → IsClassIn version raw c
class_first version raw c is of = subst (λ v. IsClassIn v raw c) (sym is) of

pub map_first : (version size : ℕ) → version ≡ 1 → IsDirectSize size → IsMapSize version size
map_first version size is direct = subst (λ v. IsMapSize v size) (sym is) direct
