-- How many slots of a class a thread keeps, and how many it requests at once.
use Rattle.std.specs.Prelude.{ℕ, List, [], ◌∷◌, nat_le, find}
use Rattle.std.specs.Option.{option_map_or}
use Rattle.pa_buckets.specs.Table.{row_of}

-- The classes with slots of at most so many bytes, and of more than in the band before, with the cache limit and the
-- fill count of each.
pub record Band : Type 0 where
  pub most : ℕ
  pub limit : ℕ
  pub fill : ℕ

-- some classes by these three numbers, in this order
abbrev pub band : ℕ → ℕ → ℕ → Band
band most limit fill = record { most = most; limit = limit; fill = fill }

-- the bands of all classes
abbrev pub bands : List Band
bands =
    band 128 64 8
    ∷ band 1024 32 4
    ∷ band 32768 16 2
    ∷ band 983040 0 1
    ∷ []

-- the cache limit of a slot size
abbrev pub limit_for : ℕ → ℕ
limit_for slot = option_map_or (λ b. b.limit) (find (λ b. nat_le slot b.most) bands) 0

-- the fill count of a slot size
abbrev pub fill_for : ℕ → ℕ
fill_for slot = option_map_or (λ b. b.fill) (find (λ b. nat_le slot b.most) bands) 0

-- the cache limit of a class, or 0 for a number above 169
unfoldable pub limit_of : ℕ → ℕ
limit_of c = option_map_or (λ r. limit_for r.slot) (row_of c) 0

-- how many slots of a class a fill asks for, or 0 for a number above 169
unfoldable pub fill_of : ℕ → ℕ
fill_of c = option_map_or (λ r. fill_for r.slot) (row_of c) 0
