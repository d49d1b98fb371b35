-- The greatest region.
use Rattle.std.specs.Prelude.{ℕ}

-- the most super pages of a region of version 1, and of a direct map
abbrev pub most_supers : ℕ
most_supers = 16

-- the most super pages of a region
abbrev pub region_supers : ℕ
region_supers = 64

-- the most words of a region
abbrev pub most_words : ℕ
most_words = 16777216
