-- What comes before a line of a sequential run: entries and exchanges, words, registers, what cells hold, roots.
use Rattle.std.specs.Prelude.{ℕ, List, [], ◌∷◌, filter, Some, ◌==◌, nat_lt, cond, Option, None}
use Rattle.pa_slot.specs.declared.word.SlotName.{SlotName}
use Rattle.pa_slot.specs.declared.word.Step.{Step}
use Rattle.pa_slot.specs.Count.{stepped}
use Rattle.pa_slot.specs.Run.{Mark, same_slot}
use Rattle.pa_record.specs.declared.history.CellEntry.{CellEntry}
use Rattle.pa_record.specs.Root.{Root, new_root, root_replayed}
use Rattle.pa_record.specs.declared.history.Held.{Held}
use Rattle.pa_rules.specs.declared.played.Played.{Played}
use Rattle.pa_rules.specs.Played.{marks_of}
use Rattle.pa_rules.specs.Registers.{AllRegs, Facts, RowsTo, no_regs, facts_with}
use Rattle.pa_rules.specs.Sizes.{usable_of}
use Rattle.pa_one_run.specs.Parts.{Parts, entry_line}

-- what comes before line n
abbrev pub below : {A : Type 0} → (A → ℕ) → ℕ → List A → List A
below f n xs = filter (λ x. nat_lt (f x) n) xs

-- what is on line n
abbrev pub on : {A : Type 0} → (A → ℕ) → ℕ → List A → List A
on f n xs = filter (λ x. f x == n) xs

-- what comes after line n
abbrev pub past : {A : Type 0} → (A → ℕ) → ℕ → List A → List A
past f n xs = filter (λ x. nat_lt n (f x)) xs

-- the word after a step that found u, which stays u if there is no step
abbrev pub stepped_by : Option Step → ℕ → ℕ
stepped_by None u = u
stepped_by (Some p) u = stepped p u

-- the word of slot s after some marks, if it was u before them
abbrev pub word_from : List Mark → SlotName → ℕ → ℕ
word_from [] s u = u
word_from (m ∷ ms) s u = word_from ms s (cond (same_slot m.slot s) (stepped_by m.step u) u)

-- the word of slot s after some records
abbrev pub word_after : List Played → SlotName → ℕ
word_after ps s = word_from (marks_of ps) s 0

-- what the rows of a run need besides the registers
abbrev pub facts_of : Parts → Facts
facts_of a = facts_with (usable_of a.rules.version) a.ps a.cells

-- the registers after the records before the line
abbrev pub HasRegisters : Parts → List Played → AllRegs → Type 0
HasRegisters a before all = RowsTo (facts_of a) no_regs before all

-- what the last of these exchanges gave, or what the cell held if there is none
abbrev pub gave_last : Held → List CellEntry → Held
gave_last held [] = held
gave_last held (e ∷ es) = gave_last e.gave es

-- the root of partition p before line n
abbrev pub root_at : Parts → ℕ → ℕ → Root
root_at a n p = root_replayed a.pools (below entry_line n (a.roots p)) new_root
