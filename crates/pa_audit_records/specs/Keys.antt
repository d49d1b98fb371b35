-- Numbers for the names of slots and for the words that they had, by which maps find them.
use Rattle.std.specs.Prelude.{ℕ, ◌+◌, ◌*◌}
use Rattle.pa_slot.specs.declared.word.SlotName.{SlotName}

-- A number for the name of a slot. Two slots that start below 2^32 have two different ones.
abbrev pub name_key : SlotName → ℕ
name_key s = 4294967296 * s.born + s.start

-- a number for the name of a slot and a word below 2^64
abbrev pub word_key : SlotName → ℕ → ℕ
word_key s w = 18446744073709551616 * name_key s + w
