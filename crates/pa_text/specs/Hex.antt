-- Words and slot names as they are printed.
use Rattle.std.specs.Prelude.{ℕ, zero, suc, ◌+◌, ◌/◌, ◌%◌, ◌^◌, ◌<◌, List, [], ◌∷◌, ◌++◌, nat_lt, if◌then◌else◌}
use Rattle.std.specs.Fmt.{decimal}
use Rattle.pa_slot.specs.declared.word.SlotName.{SlotName}

-- a digit below 16, in lower case
abbrev pub hex_digit : ℕ → ℕ
hex_digit d = if nat_lt d 10 then 48 + d else 87 + d

-- the last k hexadecimal digits of n
unfoldable pub hex : ℕ → ℕ → List ℕ
hex zero n = []
hex (suc k) n = hex k (n / 16) ++ hex_digit (n % 16) ∷ []

-- a slot's name: its start as eight hexadecimal digits, a dot, and its born
abbrev pub slot_text : SlotName → List ℕ
slot_text s = hex 8 s.start ++ 46 ∷ decimal s.born

-- both numbers of a slot's name have 32 bits
abbrev pub SlotFits : SlotName → Type 0
SlotFits s = (s.start < 2 ^ 32) × (s.born < 2 ^ 32)
