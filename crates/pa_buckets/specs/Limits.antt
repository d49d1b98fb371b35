-- The numbers of the classes.
use Rattle.std.specs.Prelude.{ℕ, nat_le, if◌then◌else◌}

-- how many classes both versions have
abbrev pub class_count : ℕ
class_count = 170

-- how many of them are version 1's, whose sizes lie less dense
abbrev pub sparse_count : ℕ
sparse_count = 59

-- the first class of a version
abbrev pub first_class : ℕ → ℕ
first_class version = if nat_le version 1 then 0 else sparse_count

-- the number after its last one's
abbrev pub past_class : ℕ → ℕ
past_class version = if nat_le version 1 then sparse_count else class_count

-- the greatest raw size that has a class in the version: the bytes of its greatest slot
abbrev pub greatest_raw : ℕ → ℕ
greatest_raw version = if nat_le version 1 then 917504 else 983040

-- the most partition pages of a slot span of a class of the version
abbrev pub most_pages : ℕ → ℕ
most_pages version = if nat_le version 1 then 56 else 60

-- the most bytes that such a span leaves over
abbrev pub most_waste : ℕ → ℕ
most_waste version = if nat_le version 1 then 64 else 2048
