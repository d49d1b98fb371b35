-- What a read takes out of a source and what a write puts into a sink, if their bytes are known, and the cause of
-- a fault.
use Rattle.std.specs.Prelude.{◌≡◌, ℕ, ◌+◌, ◌-◌, ◌^◌, ◌<◌, ◌≤◌, ◌⊎◌, ◌↔◌, min, List, [], ◌++◌, Option, Some, None, length, take}
use Rattle.std.specs.Io.KnownBytes.{Consumes, Appends}

-- if what was left is known, n is 0 exactly when nothing was left
abbrev pub EndsAt : Option (List ℕ) → ℕ → Type 0
EndsAt None n = Unit {0}
EndsAt (Some left) n = (n ≡ 0) ↔ (left ≡ [])

-- a read gave n bytes, which are at the start of the buffer: what was left, if it is known, began with them and
-- lost them
pub record Moves (before after : Option (List ℕ)) (n : ℕ) (buffer : List ℕ) : Type 0 where
  pub within : n ≤ length buffer
  pub moved : Consumes before after (take n buffer)
  pub end : EndsAt before n

-- a write took the first n bytes of a piece, at least one: what was written, if it is known, grew by them
pub record Takes (before after : Option (List ℕ)) (n : ℕ) (piece : List ℕ) : Type 0 where
  pub some_taken : 1 ≤ n
  pub within : n ≤ length piece
  pub taken : Appends before after (take n piece)

-- if what was left is known, it was these bytes and no others
abbrev pub IsAllOf : Option (List ℕ) → List ℕ → Type 0
IsAllOf None bytes = Unit {0}
IsAllOf (Some left) bytes = left ≡ bytes

-- if what was left was known, it still is, and nothing is left now
abbrev pub IsReadOut : Option (List ℕ) → Option (List ℕ) → Type 0
IsReadOut None after = Unit {0}
IsReadOut (Some left) after = after ≡ Some []

-- what was written, if it is known, grew by a first part of all, and rest is the other part
pub record HasWritten (before after : Option (List ℕ)) (all rest : List ℕ) : Type 0 where
  pub front : List ℕ
  pub split : all ≡ front ++ rest
  pub grown : Appends before after front

-- what was written, if it is known, grew by a first part of all
abbrev pub HasWrittenPart : Option (List ℕ) → Option (List ℕ) → List ℕ → Type 0
HasWrittenPart before after all = (rest : List ℕ) × HasWritten before after all rest

-- a count after one more: a u64 that stops at its greatest value
abbrev pub one_more : ℕ → ℕ
one_more n = min (n + 1) (2 ^ 64 - 1)

-- the cause of a fault: the count of faults rose, or it is at its greatest value
abbrev pub HasRisen : ℕ → ℕ → Type 0
HasRisen before after = (before < after) ⊎ (after ≡ 2 ^ 64 - 1)
