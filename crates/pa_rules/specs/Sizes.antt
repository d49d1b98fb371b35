-- Which classes and direct maps a version has, and how many bytes of the slot of a request are usable.
use Rattle.std.specs.Prelude.{◌≡◌, ℕ, ◌+◌, ◌-◌, ◌<◌, ◌≤◌, ◌&&◌, Bool, max, nat_le, nat_lt, find}
use Rattle.std.specs.Option.{option_map_or}
use Rattle.pa_buckets.specs.Limits.{first_class, past_class, greatest_raw}
use Rattle.pa_buckets.specs.Table.{rows_of, slot_of}
use Rattle.pa_buckets.specs.Classes.{IsClassIn}
use Rattle.pa_direct.specs.Shapes.{shape_of, greatest_size}

-- the version has the class of this number
abbrev pub HasClass : ℕ → ℕ → Type 0
HasClass version c = (first_class version ≤ c) × (c < past_class version)

-- the test that it has
abbrev pub is_class : ℕ → ℕ → Bool
is_class version c = nat_le (first_class version) c && nat_lt c (past_class version)

-- how many classes the version has
abbrev pub class_total : ℕ → ℕ
class_total version = past_class version - first_class version

-- the greatest request that has a class in the version: all bytes of its greatest slot but the count word
abbrev pub most_with_class : ℕ → ℕ
most_with_class version = greatest_raw version - 8

-- a request that gets a direct map in the version: too large for a class there, and not too large for the region
abbrev pub IsMapSize : ℕ → ℕ → Type 0
IsMapSize version size = (most_with_class version < size) × (size ≤ greatest_size)

-- the size of a request's slot in the version: that of its first class whose slots are large enough,
-- or of a direct map if there is none
unfoldable pub slot_size_for : ℕ → ℕ → ℕ
slot_size_for version size =
    option_map_or (λ r. r.slot) (find (λ r. nat_le (max size 1 + 8) r.slot) (rows_of version)) (shape_of size).slot

-- how many bytes of a request's slot are usable: all but the count word
abbrev pub usable_of : ℕ → ℕ → ℕ
usable_of version size = slot_size_for version size - 8

-- in each version a request's slot has the size of its class's slots, or of its direct map
pub record SizesFit : Type 0 where
  pub class : (version size class : ℕ) → IsClassIn version (max size 1 + 8) class → slot_size_for version size ≡ slot_of class
  pub direct : (version size : ℕ) → IsMapSize version size → slot_size_for version size ≡ (shape_of size).slot
