-- The count word, and the steps that change it.
use Rattle.std.specs.Prelude.{◌≡◌, ℕ, ◌+◌, ◌-◌, ◌*◌, ◌/◌, ◌%◌, ◌<◌, ◌≤◌}
use Rattle.pa_slot.specs.declared.word.Step.{Step}
use Rattle.pa_slot.specs.declared.word.Step.TheVariants.{Issue, Copy, Reset, Free, Write}

-- the word with number k, count c and allocator's bit h
abbrev pub word_of : ℕ → ℕ → ℕ → ℕ
word_of k c h = 16777216 * k + 2 * c + h

-- how many steps the word has seen, in bits 24 and up
abbrev pub number_of : ℕ → ℕ
number_of w = w / 16777216

-- how many raw_ptrs the word counts, in bits 1 to 23
abbrev pub refs_of : ℕ → ℕ
refs_of w = w % 16777216 / 2

-- the allocator's bit of the word, bit 0: 1 while the slot is allocated
abbrev pub held_of : ℕ → ℕ
held_of w = w % 2

-- when a step may be made, by the count c and the bit h that it finds
abbrev pub Enabled : Step → ℕ → ℕ → Type 0
Enabled Issue c h = (h ≡ 0) × (c ≡ 0)
Enabled Copy c h = 0 < h + c
Enabled Reset c h = 1 ≤ c
Enabled Free c h = h ≡ 1
Enabled Write c h = (h ≡ 1) × (c ≡ 0)

-- what a step asks of the count so that it stays in its bits: a copy, that it is below 8,388,607; the others, nothing
abbrev pub HasRoom : Step → ℕ → Type 0
HasRoom Issue c = Unit {0}
HasRoom Copy c = c < 8388607
HasRoom Reset c = Unit {0}
HasRoom Free c = Unit {0}
HasRoom Write c = Unit {0}

-- the step is enabled at the word, and number and count stay in their bits
abbrev pub CanStep : Step → ℕ → Type 0
CanStep s w = Enabled s (refs_of w) (held_of w) × (number_of w < 1099511627775) × HasRoom s (refs_of w)

-- the word after a step: the number rises by one, and count and bit change by what the step adds
abbrev pub stepped : Step → ℕ → ℕ
stepped Issue w = w + 16777216 + 1
stepped Copy w = w + 16777216 + 2
stepped Reset w = w + 16777216 - 2
stepped Free w = w + 16777216 - 1
stepped Write w = w + 16777216
