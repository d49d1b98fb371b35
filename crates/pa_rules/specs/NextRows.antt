-- What an op does by its register alone is what its row requires: a law for each op.
use Rattle.std.specs.Prelude.{◌≡◌, ◌↔◌, ℕ, Bool, true, false, ◌*◌, ◌<◌, ◌≤◌, ◌&&◌, ◌⊎◌, Result, Ok, Err}
use Rattle.pa_slot.specs.declared.word.SlotName.{SlotName}
use Rattle.pa_slot.specs.Count.{refs_of}
use Rattle.pa_record.specs.declared.entry.Seen.{Seen}
use Rattle.pa_record.specs.declared.entry.Answer.{Answer}
use Rattle.pa_record.specs.declared.entry.Answer.TheVariants.{Done, Filled, Shared, OutOfRange, Uncounted}
use Rattle.pa_rules.specs.declared.register.Register.TheVariants.{Ref, Freed, Cleared}
use Rattle.pa_rules.specs.declared.register.Next.{Next}
use Rattle.pa_rules.specs.declared.register.Next.TheVariants.{Refused, Step, Look}
use Rattle.pa_rules.specs.Registers.{Reg, Regs, Facts, with, Becomes, RequestRow, AllocRow, CopyToRow, CopyRow, ResetRow, FreeRow, WriteRow, ReadRow}
use Rattle.pa_rules.specs.Nexts.{HasSomeHandle, is_owner, copy_next, reset_next, free_next, write_next, read_next, looked_free, looked_write, looked_read}

-- an op that is refused with this answer
abbrev pub IsRefusedSo : Answer → Regs → Answer → Regs → Type 0
IsRefusedSo refusal regs answer after = (answer ≡ refusal) × Becomes after regs

-- a step on slot s that was made, and leaves these registers
abbrev pub IsStepped : SlotName → Regs → Answer → Regs → Type 0
IsStepped s regs answer after = (seen : Seen) × (seen.slot ≡ s) × (answer ≡ Done seen) × Becomes after regs

-- a look at slot s, which gets this answer
abbrev pub IsAnsweredBy : (Seen → Answer) → SlotName → Regs → Answer → Regs → Type 0
IsAnsweredBy looked s regs answer after = (seen : Seen) × (seen.slot ≡ s) × (answer ≡ looked seen) × Becomes after regs

-- a copy: the row of its second register says what its step requires, given of which slots a copy wouldn't be counted
abbrev pub CopyBy : (SlotName → Bool) → Result SlotName Answer → Regs → ℕ → Answer → Regs → Type 0
CopyBy uncounted (Ok s) regs to answer after = CopyToRow (regs to) (uncounted s) s regs to answer after
CopyBy uncounted (Err refusal) regs to answer after = IsRefusedSo refusal regs answer after

-- a copy is as its row requires exactly if its first register alone refuses it so,
-- or names the slot and the second one's row is met; of an owner of a plain slot alone it wouldn't be counted
abbrev pub CopiesAreNext : Type 0
CopiesAreNext = (r : Reg) (facts : Facts) (regs : Regs) (to : ℕ) (answer : Answer) (after : Regs) →
    CopyRow r facts regs to answer after ↔ CopyBy (λ s. is_owner r && facts.plain_at s) (copy_next r) regs to answer after

-- a reset steps on the slot and leaves its register cleared, or is refused and leaves the registers as they are
abbrev pub ResetBy : Result SlotName Answer → Regs → ℕ → Answer → Regs → Type 0
ResetBy (Ok s) regs reg answer after = IsStepped s (with regs reg Cleared) answer after
ResetBy (Err refusal) regs reg answer after = IsRefusedSo refusal regs answer after

-- a reset is as its row requires exactly if it does what its register alone says
abbrev pub ResetsAreNext : Type 0
ResetsAreNext = (r : Reg) (regs : Regs) (reg : ℕ) (answer : Answer) (after : Regs) →
    ResetRow r regs reg answer after ↔ ResetBy (reset_next r) regs reg answer after

-- a free is refused, or steps on the slot and leaves its register freed, or only looks at the slot
abbrev pub FreeBy : Next SlotName → Regs → ℕ → Answer → Regs → Type 0
FreeBy (Refused refusal) regs reg answer after = IsRefusedSo refusal regs answer after
FreeBy (Step s) regs reg answer after = IsStepped s (with regs reg Freed) answer after
FreeBy (Look s) regs reg answer after = IsAnsweredBy looked_free s regs answer after

-- a free is as its row requires exactly if it does what its register alone says
abbrev pub FreesAreNext : Type 0
FreesAreNext = (r : Reg) (regs : Regs) (reg : ℕ) (answer : Answer) (after : Regs) →
    FreeRow r regs reg answer after ↔ FreeBy (free_next r) regs reg answer after

-- a write is refused, or is made by the owner if no raw_ptr points to the slot, or only looks at the slot
abbrev pub WriteBy : Next SlotName → Regs → Answer → Regs → Type 0
WriteBy (Refused refusal) regs answer after = IsRefusedSo refusal regs answer after
WriteBy (Step s) regs answer after =
    (seen : Seen) × (seen.slot ≡ s) × Becomes after regs
    × (((0 < refs_of seen.found.0) × (answer ≡ Shared seen)) ⊎ ((refs_of seen.found.0 ≡ 0) × (answer ≡ Done seen)))
WriteBy (Look s) regs answer after = IsAnsweredBy looked_write s regs answer after

-- a write is as its row requires exactly if it does what its register alone says
abbrev pub WritesAreNext : Type 0
WritesAreNext = (r : Reg) (regs : Regs) (answer : Answer) (after : Regs) →
    WriteRow r regs answer after ↔ WriteBy (write_next r) regs answer after

-- a read is refused, or looks at the slot if its word is inside the usable bytes
abbrev pub ReadBy : Result SlotName Answer → Facts → Regs → ℕ → Answer → Regs → Type 0
ReadBy (Err refusal) facts regs place answer after = IsRefusedSo refusal regs answer after
ReadBy (Ok s) facts regs place answer after =
    ((facts.usable_at s ≤ 8 * place) × (answer ≡ OutOfRange) × Becomes after regs)
    ⊎ ((8 * place < facts.usable_at s) × (value : ℕ) × IsAnsweredBy (λ seen. looked_read seen value) s regs answer after)

-- a read is as its row requires exactly if it does what its register alone says
abbrev pub ReadsAreNext : Type 0
ReadsAreNext = (r : Reg) (facts : Facts) (regs : Regs) (place : ℕ) (answer : Answer) (after : Regs) →
    ReadRow r facts regs place answer after ↔ ReadBy (read_next r) facts regs place answer after

-- A register that has a handle gets no other: an allocation into it and a copy to it are refused. Into one that has none an
-- allocation is a request, and a copy makes it a raw_ptr, or is refused if it wouldn't be counted.
pub record HandlesStay : Type 0 where
  pub alloc_filled : (r : Reg) (facts : Facts) (regs : Regs) (reg size : ℕ) (answer : Answer) (after : Regs) → HasSomeHandle r →
      AllocRow r facts regs reg size answer after ↔ IsRefusedSo Filled regs answer after
  pub alloc_asks : (r : Reg) (facts : Facts) (regs : Regs) (reg size : ℕ) (answer : Answer) (after : Regs) → ¬ HasSomeHandle r →
      AllocRow r facts regs reg size answer after ↔ RequestRow facts regs reg size answer after
  pub copy_filled : (r : Reg) (plain : Bool) (s : SlotName) (regs : Regs) (to : ℕ) (answer : Answer) (after : Regs) → HasSomeHandle r →
      CopyToRow r plain s regs to answer after ↔ IsRefusedSo Filled regs answer after
  pub copy_points : (r : Reg) (s : SlotName) (regs : Regs) (to : ℕ) (answer : Answer) (after : Regs) → ¬ HasSomeHandle r →
      CopyToRow r false s regs to answer after ↔ IsStepped s (with regs to (Ref s)) answer after
  pub copy_plain : (r : Reg) (s : SlotName) (regs : Regs) (to : ℕ) (answer : Answer) (after : Regs) → ¬ HasSomeHandle r →
      CopyToRow r true s regs to answer after ↔ IsRefusedSo Uncounted regs answer after
