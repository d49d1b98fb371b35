-- The kinds of steps by which tallies change.
use Rattle.std.specs.Prelude.{ℕ, ◌==◌, ◌&&◌, Bool, true, false, not}
use Rattle.pa_slot.specs.declared.word.Step.{Step}
use Rattle.pa_slot.specs.declared.word.Step.TheVariants.{Issue, Copy, Reset, Free, Write}
use Rattle.pa_slot.specs.Count.{held_of, refs_of}

-- the step makes a slot live: it is an issue, whatever word it found
abbrev pub issues : Step → ℕ → Bool
issues Issue w = true
issues Copy w = false
issues Reset w = false
issues Free w = false
issues Write w = false

-- the step ends that a slot is live: it is a free, whatever word it found
abbrev pub frees : Step → ℕ → Bool
frees Issue w = false
frees Copy w = false
frees Reset w = false
frees Free w = true
frees Write w = false

-- the step begins a quarantine: it is a free that found raw_ptrs
abbrev pub enters : Step → ℕ → Bool
enters Issue w = false
enters Copy w = false
enters Reset w = false
enters Free w = not (refs_of w == 0)
enters Write w = false

-- the step ends a quarantine: it is a reset that found the allocator's bit 0 and the last raw_ptr
abbrev pub leaves : Step → ℕ → Bool
leaves Issue w = false
leaves Copy w = false
leaves Reset w = (held_of w == 0) && (refs_of w == 1)
leaves Free w = false
leaves Write w = false
