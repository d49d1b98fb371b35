-- Reading from left to right: each reader returns what the bytes begin with, and the bytes after it.
use Rattle.std.specs.Prelude.{◌≡◌, ℕ, nat_eq, nat_lt, if◌then◌else◌, List, length, take, drop, codes, Option, Some, None}
use Rattle.std.specs.Cmp.Lexicographic.{pointwise}
use Rattle.pa_slot.specs.declared.word.SlotName.{SlotName}
use Rattle.pa_text.specs.Reading.{◌>>=◌, number_at, hexes_at}

-- what a function returned, seen by view, is what reading yields
abbrev pub Yields : {X Y : Type 0} → (X → Y) → Option X → Option Y → Type 0
Yields view None read = read ≡ None
Yields view (Some x) read = read ≡ Some (view x)

-- the bytes after a word with which they begin
unfoldable pub after_word : List ℕ → List ℕ → Option (List ℕ)
after_word word bytes = if pointwise nat_eq (take (length word) bytes) word then Some (drop (length word) bytes) else None

-- one reading if the word was there, else another
abbrev pub either : {A : Type 0} → Option (List ℕ) → (List ℕ → Option A) → Option A → Option A
either None there else' = else'
either (Some rest) there else' = there rest

-- the first of two that yields something
abbrev pub first_read : {A : Type 0} → Option A → Option A → Option A
first_read None second = second
first_read (Some x) second = Some x

-- the number if it has at most 64 bits
abbrev pub narrowed : ℕ × List ℕ → Option (ℕ × List ℕ)
narrowed x = if nat_lt x.0 18446744073709551616 then Some x else None

-- the number at the start, if it has at most 64 bits
unfoldable pub wide_at : List ℕ → Option (ℕ × List ℕ)
wide_at bytes = do
  x ← number_at bytes
  narrowed x

-- the number at the start, if it has at most 64 bits and is below the limit
unfoldable pub below_at : ℕ → List ℕ → Option (ℕ × List ℕ)
below_at limit bytes = do
  x ← wide_at bytes
  if nat_lt x.0 limit then Some x else None

-- a word and the number after it, if that is below the limit
unfoldable pub below_in : List ℕ → ℕ → List ℕ → Option (ℕ × List ℕ)
below_in word limit bytes = do
  rest ← after_word word bytes
  below_at limit rest

-- a word and the number after it, if that has at most 64 bits
unfoldable pub wide_in : List ℕ → List ℕ → Option (ℕ × List ℕ)
wide_in word bytes = do
  rest ← after_word word bytes
  wide_at rest

-- a word and the sixteen hexadecimal digits after it
unfoldable pub hexes_in : List ℕ → Option (ℕ × List ℕ)
hexes_in bytes = do
  rest ← after_word (codes " ") bytes
  hexes_at 16 rest

-- a slot's name: eight hexadecimal digits, a dot and a number
unfoldable pub slot_in : List ℕ → Option (SlotName × List ℕ)
slot_in bytes = do
  start ← hexes_at 8 bytes
  born ← below_in (codes ".") 4294967296 start.1
  Some (record { start = start.0; born = born.0 }, born.1)
