-- The lists of the caches.
use Rattle.std.specs.Prelude.{◌≡◌, ℕ, ◌*◌, ◌<◌, ◌≤◌, List, [], ◌∷◌, All, drop, length, slice_index_or, slice_set, take}
use Rattle.std.specs.List.{sum_by}

-- the front was taken from a list
pub record IsFront (at place : ℕ) (before after : List (List ℕ)) : Type 0 where
  pub rest : List ℕ
  pub front : slice_index_or before at [] ≡ place ∷ rest
  pub left : after ≡ slice_set before at rest

-- a row of lists, where each row has `classes` of them
abbrev pub row_in : List (List ℕ) → ℕ → ℕ → List (List ℕ)
row_in lists classes row = take classes (drop (row * classes) lists)

-- The lists come in rows of `classes` lists each, and the sums are how many slots the lists of each row have together.
pub record AreSummed (lists : List (List ℕ)) (classes : ℕ) (sums : List ℕ) : Type 0 where
  pub many : length lists ≡ length sums * classes
  pub short : All (λ slots. length slots ≤ 65) lists
  pub each : (k : ℕ) → k < length sums → slice_index_or sums k 0 ≡ sum_by length (row_in lists classes k)
