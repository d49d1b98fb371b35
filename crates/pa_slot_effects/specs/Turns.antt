-- What each op's turn leaves, and what it requires.
use Rattle.std.specs.Prelude.{◌≡◌, ℕ, ◌+◌, ◌<◌, ◌≤◌, List, [], ◌∷◌, ◌++◌, length, Some, None}
use Rattle.pa_slot.specs.declared.word.SlotName.{SlotName}
use Rattle.pa_slot.specs.declared.word.Step.TheVariants as steps
use Rattle.pa_slot.specs.Count.{held_of, stepped}
use Rattle.pa_slot.specs.Titles.{poison}
use Rattle.pa_trace.specs.declared.script.Op.{Op}
use Rattle.pa_trace.specs.declared.script.Line.{Line}
use Rattle.pa_trace.specs.declared.script.Line.TheVariants.{Do}
use Rattle.pa_trace.specs.declared.script.Rules.{Rules}
use Rattle.pa_record.specs.declared.entry.Seen.{Seen}
use Rattle.pa_record.specs.declared.entry.Answer.{Answer}
use Rattle.pa_record.specs.declared.entry.Answer.TheVariants.{Made, Done, Value, Dangling, SecondFree, NotOwner, StaleReset, StaleUse, Nothing, Filled, NotRef, Shared, OutOfRange, TooLarge, Full, Swapped, Purged, Uncounted}
use Rattle.pa_record.specs.declared.history.CellEntry.{CellEntry}
use Rattle.pa_trace.specs.Limits.{most_threads}
use Rattle.pa_rules.specs.declared.register.Register.TheVariants.{Empty, Own, Ref, Freed, Cleared}
use Rattle.pa_rules.specs.declared.played.Played.{Played}
use Rattle.pa_rules.specs.Registers.{Reg, handle_of, reg_of}
use Rattle.pa_rules.specs.Legal.{phases_in}
use Rattle.pa_slot_effects.specs.Shown.{Shown, with_reg, with_slot, with_held, with_entry}
use Rattle.pa_slot_effects.specs.Known.{IsToldTo}

-- the record of the next line, an op of this thread
abbrev pub played_at : Rules → List Line → ℕ → Op → Answer → Played
played_at rules ls thread op answer =
    record { line = length ls + 2; thread = thread; phase = phases_in ls; rules = rules; op = op; answer = answer }

-- with one more op and answer the records leave this
abbrev pub LeadsTo : ℕ → List Line → List Played → ℕ → Op → Answer → Shown → Type 0
LeadsTo threads ls ps thread op answer after =
    IsToldTo threads (ls ++ Do thread op ∷ []) (ps ++ played_at after.rules ls thread op answer ∷ []) after

-- the thread can play the next line
pub record CanPlay (threads : ℕ) (ls : List Line) (ps : List Played) (a : Shown) (thread : ℕ) : Type 0 where
  pub told : IsToldTo threads ls ps a
  pub among : thread < threads
  pub few : threads ≤ most_threads
  pub short : length ls < 65536

-- the register has a handle to slot s
abbrev pub Names : SlotName → Reg → Type 0
Names s Empty = ⊥
Names s (Own t) = t ≡ s
Names s (Ref t) = t ≡ s
Names s Freed = ⊥
Names s Cleared = ⊥

-- the register has no handle: it is empty, freed or cleared
abbrev pub HoldsNone : Reg → Type 0
HoldsNone Empty = Unit {0}
HoldsNone (Own s) = ⊥
HoldsNone (Ref s) = ⊥
HoldsNone Freed = Unit {0}
HoldsNone Cleared = Unit {0}

-- after an allocation the register owns the slot, all of its content is 0, and its word is the one after the step
abbrev pub after_made : Shown → ℕ → ℕ → Seen → Shown
after_made a thread reg seen = record a {
  regs = with_reg a.regs thread reg (Own seen.slot);
  word = with_slot a.word seen.slot (stepped steps.Issue seen.found.0);
  content = with_slot a.content seen.slot 0;
}

-- after a copy the register `to` is a raw_ptr to the slot, and the slot's word is the one after the step
abbrev pub after_copy : Shown → ℕ → ℕ → Seen → Shown
after_copy a thread to seen = record a {
  regs = with_reg a.regs thread to (Ref seen.slot);
  word = with_slot a.word seen.slot (stepped steps.Copy seen.found.0);
}

-- after a reset the register is cleared, and the slot's word is the one after the step
abbrev pub after_reset : Shown → ℕ → ℕ → Seen → Shown
after_reset a thread reg seen = record a {
  regs = with_reg a.regs thread reg Cleared;
  word = with_slot a.word seen.slot (stepped steps.Reset seen.found.0);
}

-- after a free the register is freed, and the slot's word is the one after the step
abbrev pub after_free : Shown → ℕ → ℕ → Seen → Shown
after_free a thread reg seen = record a {
  regs = with_reg a.regs thread reg Freed;
  word = with_slot a.word seen.slot (stepped steps.Free seen.found.0);
}

-- after a write the slot's content is the value, and its word is the one after the step
abbrev pub after_write : Shown → ℕ → Seen → Shown
after_write a value seen = record a {
  word = with_slot a.word seen.slot (stepped steps.Write seen.found.0);
  content = with_slot a.content seen.slot value;
}

-- an exchange of a cell on this line
abbrev pub exchange_of : Shown → ℕ → ℕ → ℕ → ℕ → CellEntry
exchange_of a line thread cell reg = record { line = line; gave = handle_of (a.regs thread reg); found = a.held cell }

-- after an exchange the register and the cell have each other's handle, and the cell's history has one entry more
abbrev pub after_swap : Shown → ℕ → ℕ → ℕ → ℕ → Shown
after_swap a line thread cell reg = record a {
  regs = with_reg a.regs thread reg (reg_of (a.held cell));
  held = with_held a.held cell (handle_of (a.regs thread reg));
  cells = with_entry a.cells cell (exchange_of a line thread cell reg);
}

-- the answer reports no slot
abbrev pub TellsNone : Answer → Type 0
TellsNone (Made seen usable) = ⊥
TellsNone (Done seen) = ⊥
TellsNone (Value seen value) = ⊥
TellsNone (Dangling seen value) = ⊥
TellsNone (SecondFree None) = Unit {0}
TellsNone (SecondFree (Some seen)) = ⊥
TellsNone (NotOwner seen) = ⊥
TellsNone StaleReset = Unit {0}
TellsNone (StaleUse None) = Unit {0}
TellsNone (StaleUse (Some seen)) = ⊥
TellsNone Nothing = Unit {0}
TellsNone Filled = Unit {0}
TellsNone NotRef = Unit {0}
TellsNone (Shared seen) = ⊥
TellsNone OutOfRange = Unit {0}
TellsNone TooLarge = Unit {0}
TellsNone (Full entry) = Unit {0}
TellsNone (Swapped entry) = ⊥
TellsNone (Purged slots) = Unit {0}
TellsNone Uncounted = Unit {0}

-- the answer looked at this slot and found this word, and what it says was read is the slot's content, or poison
abbrev pub Looks : Shown → Seen → Answer → Type 0
Looks a s (Made seen usable) = ⊥
Looks a s (Done seen) = ⊥
Looks a s (Value seen value) = (seen ≡ s) × (held_of s.found.0 ≡ 1) × (value ≡ a.content s.slot)
Looks a s (Dangling seen value) = (seen ≡ s) × (value ≡ poison)
Looks a s (SecondFree None) = ⊥
Looks a s (SecondFree (Some seen)) = seen ≡ s
Looks a s (NotOwner seen) = seen ≡ s
Looks a s StaleReset = ⊥
Looks a s (StaleUse None) = ⊥
Looks a s (StaleUse (Some seen)) = seen ≡ s
Looks a s Nothing = ⊥
Looks a s Filled = ⊥
Looks a s NotRef = ⊥
Looks a s (Shared seen) = seen ≡ s
Looks a s OutOfRange = ⊥
Looks a s TooLarge = ⊥
Looks a s (Full entry) = ⊥
Looks a s (Swapped entry) = ⊥
Looks a s (Purged slots) = ⊥
Looks a s Uncounted = ⊥
