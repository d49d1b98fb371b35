-- The register that an op changes by its answer, and what it holds then.
use Rattle.std.specs.Prelude.{ℕ, List, slice_get, Option, Some, None}
use Rattle.std.specs.Option.{option_map}
use Rattle.pa_slot.specs.declared.word.SlotName.{SlotName}
use Rattle.pa_trace.specs.declared.script.Op.{Op}
use Rattle.pa_trace.specs.declared.script.Op.TheVariants as ops
use Rattle.pa_record.specs.declared.entry.Seen.{Seen}
use Rattle.pa_record.specs.declared.entry.Answer.{Answer}
use Rattle.pa_record.specs.declared.entry.Answer.TheVariants.{Done, Swapped}
use Rattle.pa_record.specs.declared.history.CellEntry.{CellEntry}
use Rattle.pa_record.specs.declared.history.Held.{Held}
use Rattle.pa_record.specs.declared.history.Held.TheVariants as held
use Rattle.pa_rules.specs.declared.register.Register.TheVariants.{Own, Ref, Freed, Cleared}
use Rattle.pa_rules.specs.Registers.{Reg, Regs, with, reg_of, made_of}

-- what was seen by a step that was done, or none for any other answer
abbrev pub done_of : Answer → Option Seen
done_of (Done seen) = Some seen
done_of answer = None

-- the number of a swap's exchange in the history of its cell, or none for any other answer
abbrev pub swapped_of : Answer → Option ℕ
swapped_of (Swapped entry) = Some entry
swapped_of answer = None

-- the handle that an exchange found in its cell, or none if there is no such exchange
abbrev pub found_in : Option CellEntry → Held
found_in None = held.Nothing
found_in (Some e) = e.found

-- the register that an op changes by its answer, with what it holds then
abbrev pub change_of : (ℕ → List CellEntry) → Op → Answer → Option (ℕ × Reg)
change_of cells (ops.Alloc reg partition size) answer = option_map (λ (m : SlotName × ℕ). (reg, Own m.0)) (made_of answer)
change_of cells (ops.Copy from to) answer = option_map (λ (seen : Seen). (to, Ref seen.slot)) (done_of answer)
change_of cells (ops.Reset reg) answer = option_map (λ (seen : Seen). (reg, Cleared)) (done_of answer)
change_of cells (ops.Free reg) answer = option_map (λ (seen : Seen). (reg, Freed)) (done_of answer)
change_of cells (ops.Write reg value) answer = None
change_of cells (ops.Read reg place) answer = None
change_of cells (ops.Swap cell reg) answer = option_map (λ (j : ℕ). (reg, reg_of (found_in (slice_get (cells cell) j)))) (swapped_of answer)
change_of cells ops.Purge answer = None

-- the registers with the one that is changed, if one is
abbrev pub changed : Regs → Option (ℕ × Reg) → Regs
changed regs None = regs
changed regs (Some c) = with regs c.0 c.1
