-- The numbers of the slots that came back to a span, and how often each is among them.
use Rattle.std.specs.Prelude.{◌≡◌, ℕ, ◌+◌, ◌<◌, ◌≤◌, ◌==◌, if◌then◌else◌, List, [], ◌∷◌, length, slice_index_or}
use Rattle.pa_buckets.specs.Table.{slots_of}

-- the numbers that came back, the last one first, and the bound that they are below, which is also how many there is room for
pub record CameBack : Type 0 where
  pub items : List ℕ
  pub room : ℕ

-- how often a number is in the list
abbrev pub times_in : ℕ → List ℕ → ℕ
times_in n [] = 0
times_in n (x ∷ xs) = (if x == n then 1 else 0) + times_in n xs

-- the entry of each number is how often the list has it
abbrev pub AreTimes : List ℕ → List ℕ → Type 0
AreTimes times xs = (n : ℕ) → n < length times → slice_index_or times n 0 ≡ times_in n xs

-- What came back to a span of this class has room for all slots of one, and the slots from a number on never left it.
pub record AreKept (class provisioned from : ℕ) (back : CameBack) : Type 0 where
  pub room : slots_of class ≤ back.room
  pub low : from ≤ provisioned
