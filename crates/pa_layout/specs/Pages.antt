-- The partition pages of the super pages, and their records.
use Rattle.std.specs.Prelude.{ℕ, ◌+◌, ◌*◌, ◌/◌, ◌%◌}

-- the super page in which the byte x of the region lies
abbrev pub super_page_at : ℕ → ℕ
super_page_at x = x / 2097152

-- the partition page of its super page in which the byte x of the region lies
abbrev pub page_at : ℕ → ℕ
page_at x = x % 2097152 / 16384

-- the first byte of a partition page
abbrev pub page_place : ℕ → ℕ → ℕ
page_place super page = 2097152 * super + 16384 * page

-- the first byte of a partition page's record
abbrev pub record_place : ℕ → ℕ → ℕ
record_place super page = 2097152 * super + 4096 + 32 * page

-- the super pages that a direct map takes for a slot of that many bytes: with a partition page before it and at least as much
-- after it
abbrev pub supers_for : ℕ → ℕ
supers_for slot = (slot + 32768 + 2097151) / 2097152
