-- The registers of the threads: the answer of each op, and the registers after it.
use Rattle.std.specs.Prelude.{◌≡◌, ℕ, Bool, true, false, nat_le, ◌*◌, ◌<◌, ◌≤◌, ◌==◌, if◌then◌else◌, ◌⊎◌, List, [], ◌∷◌, Option, Some, None, slice_get}
use Rattle.pa_slot.specs.declared.word.SlotName.{SlotName}
use Rattle.pa_slot.specs.Count.{held_of, refs_of}
use Rattle.pa_slot.specs.Run.{same_slot}
use Rattle.pa_trace.specs.declared.script.Op.{Op}
use Rattle.pa_trace.specs.declared.script.Op.TheVariants as ops
use Rattle.pa_trace.specs.declared.script.Rules.{Rules}
use Rattle.pa_direct.specs.Shapes.{greatest_size}
use Rattle.pa_record.specs.declared.entry.Seen.{Seen}
use Rattle.pa_record.specs.declared.entry.Answer.{Answer}
use Rattle.pa_record.specs.declared.entry.Answer.TheVariants.{Made, Done, Value, Dangling, SecondFree, NotOwner, StaleReset, StaleUse, Nothing, Filled, NotRef, Shared, OutOfRange, TooLarge, Full, Swapped, Purged, Uncounted}
use Rattle.pa_record.specs.declared.history.CellEntry.{CellEntry}
use Rattle.pa_record.specs.declared.history.Held.{Held}
use Rattle.pa_record.specs.declared.history.Held.TheVariants as held
use Rattle.pa_rules.specs.declared.register.Register.{Register}
use Rattle.pa_rules.specs.declared.register.Register.TheVariants.{Empty, Own, Ref, Freed, Cleared}
use Rattle.pa_rules.specs.declared.played.Played.{Played}

-- a register, as the rules have it: a handle is the name of its slot
abbrev pub Reg : Type 0
Reg = Register SlotName

-- the registers of one thread, by their numbers
abbrev pub Regs : Type 0
Regs = ℕ → Reg

-- the registers with one of them changed
abbrev pub with : Regs → ℕ → Reg → Regs
with regs i r k = if k == i then r else regs k

-- `after` has what `regs` has
abbrev pub Becomes : Regs → Regs → Type 0
Becomes after regs = (k : ℕ) → after k ≡ regs k

-- What the rows need besides the registers: how many bytes of a size's slot and of a slot are usable, whether a slot is in a
-- partition without reference counts, and what was done with each cell.
pub record Facts : Type 0 where
  pub usable_of : ℕ → ℕ
  pub usable_at : SlotName → ℕ
  pub plain_at : SlotName → Bool
  pub cells : ℕ → List CellEntry

-- A request that finds its register without a handle. One above 33,521,656 bytes is too large;
-- else it made a slot, or the placement was full.
abbrev pub RequestRow : Facts → Regs → ℕ → ℕ → Answer → Regs → Type 0
RequestRow facts regs reg size answer after =
    ((greatest_size < size) × (answer ≡ TooLarge) × Becomes after regs)
    ⊎ ((size ≤ greatest_size) × (seen : Seen) × (answer ≡ Made seen (facts.usable_of size)) × Becomes after (with regs reg (Own seen.slot)))
    ⊎ ((size ≤ greatest_size) × (entry : ℕ) × (answer ≡ Full entry) × Becomes after regs)

-- an allocation, by what its register holds
abbrev pub AllocRow : Reg → Facts → Regs → ℕ → ℕ → Answer → Regs → Type 0
AllocRow Empty facts regs reg size answer after = RequestRow facts regs reg size answer after
AllocRow (Own s) facts regs reg size answer after = (answer ≡ Filled) × Becomes after regs
AllocRow (Ref s) facts regs reg size answer after = (answer ≡ Filled) × Becomes after regs
AllocRow Freed facts regs reg size answer after = RequestRow facts regs reg size answer after
AllocRow Cleared facts regs reg size answer after = RequestRow facts regs reg size answer after

-- a register without a handle becomes a raw_ptr to slot s, unless no raw_ptr to it would be counted
abbrev pub PointRow : Bool → SlotName → Regs → ℕ → Answer → Regs → Type 0
PointRow true s regs to answer after = (answer ≡ Uncounted) × Becomes after regs
PointRow false s regs to answer after = (seen : Seen) × (seen.slot ≡ s) × (answer ≡ Done seen) × Becomes after (with regs to (Ref s))

-- a copy of a handle to slot s, by what the second register holds; it may be the first itself, which has a handle
abbrev pub CopyToRow : Reg → Bool → SlotName → Regs → ℕ → Answer → Regs → Type 0
CopyToRow Empty plain s regs to answer after = PointRow plain s regs to answer after
CopyToRow (Own t) plain s regs to answer after = (answer ≡ Filled) × Becomes after regs
CopyToRow (Ref t) plain s regs to answer after = (answer ≡ Filled) × Becomes after regs
CopyToRow Freed plain s regs to answer after = PointRow plain s regs to answer after
CopyToRow Cleared plain s regs to answer after = PointRow plain s regs to answer after

-- a copy, by what the first register holds; a raw_ptr is counted, so a copy of it is
abbrev pub CopyRow : Reg → Facts → Regs → ℕ → Answer → Regs → Type 0
CopyRow Empty facts regs to answer after = (answer ≡ Nothing) × Becomes after regs
CopyRow (Own s) facts regs to answer after = CopyToRow (regs to) (facts.plain_at s) s regs to answer after
CopyRow (Ref s) facts regs to answer after = CopyToRow (regs to) false s regs to answer after
CopyRow Freed facts regs to answer after = (answer ≡ StaleUse None) × Becomes after regs
CopyRow Cleared facts regs to answer after = (answer ≡ StaleUse None) × Becomes after regs

-- a reset, by what its register holds
abbrev pub ResetRow : Reg → Regs → ℕ → Answer → Regs → Type 0
ResetRow Empty regs reg answer after = (answer ≡ Nothing) × Becomes after regs
ResetRow (Own s) regs reg answer after = (answer ≡ NotRef) × Becomes after regs
ResetRow (Ref s) regs reg answer after = (seen : Seen) × (seen.slot ≡ s) × (answer ≡ Done seen) × Becomes after (with regs reg Cleared)
ResetRow Freed regs reg answer after = (answer ≡ NotRef) × Becomes after regs
ResetRow Cleared regs reg answer after = (answer ≡ StaleReset) × Becomes after regs

-- a free, by what its register holds; through a raw_ptr it only looks
abbrev pub FreeRow : Reg → Regs → ℕ → Answer → Regs → Type 0
FreeRow Empty regs reg answer after = (answer ≡ Nothing) × Becomes after regs
FreeRow (Own s) regs reg answer after = (seen : Seen) × (seen.slot ≡ s) × (answer ≡ Done seen) × Becomes after (with regs reg Freed)
FreeRow (Ref s) regs reg answer after =
    (seen : Seen) × (seen.slot ≡ s) × Becomes after regs
    × (((held_of seen.found.0 ≡ 1) × (answer ≡ NotOwner seen)) ⊎ ((held_of seen.found.0 ≡ 0) × (answer ≡ SecondFree (Some seen))))
FreeRow Freed regs reg answer after = (answer ≡ SecondFree None) × Becomes after regs
FreeRow Cleared regs reg answer after = (answer ≡ StaleUse None) × Becomes after regs

-- a write, by what its register holds; an owner writes only if no raw_ptr points to the slot
abbrev pub WriteRow : Reg → Regs → Answer → Regs → Type 0
WriteRow Empty regs answer after = (answer ≡ Nothing) × Becomes after regs
WriteRow (Own s) regs answer after =
    (seen : Seen) × (seen.slot ≡ s) × Becomes after regs
    × (((0 < refs_of seen.found.0) × (answer ≡ Shared seen)) ⊎ ((refs_of seen.found.0 ≡ 0) × (answer ≡ Done seen)))
WriteRow (Ref s) regs answer after =
    (seen : Seen) × (seen.slot ≡ s) × Becomes after regs
    × (((held_of seen.found.0 ≡ 1) × (answer ≡ NotOwner seen)) ⊎ ((held_of seen.found.0 ≡ 0) × (answer ≡ StaleUse (Some seen))))
WriteRow Freed regs answer after = (answer ≡ StaleUse None) × Becomes after regs
WriteRow Cleared regs answer after = (answer ≡ StaleUse None) × Becomes after regs

-- A read through a handle to slot s. A word that isn't inside the usable bytes is out of range; else the slot is looked
-- at, and the read is dangling if it was freed. Which value is read is a matter of the contents.
abbrev pub ReadFromRow : SlotName → Facts → Regs → ℕ → Answer → Regs → Type 0
ReadFromRow s facts regs place answer after =
    Becomes after regs
    × (((facts.usable_at s ≤ 8 * place) × (answer ≡ OutOfRange))
    ⊎ ((8 * place < facts.usable_at s) × (seen : Seen) × (value : ℕ) × (seen.slot ≡ s)
    × (((held_of seen.found.0 ≡ 1) × (answer ≡ Value seen value)) ⊎ ((held_of seen.found.0 ≡ 0) × (answer ≡ Dangling seen value)))))

-- a read, by what its register holds
abbrev pub ReadRow : Reg → Facts → Regs → ℕ → Answer → Regs → Type 0
ReadRow Empty facts regs place answer after = (answer ≡ Nothing) × Becomes after regs
ReadRow (Own s) facts regs place answer after = ReadFromRow s facts regs place answer after
ReadRow (Ref s) facts regs place answer after = ReadFromRow s facts regs place answer after
ReadRow Freed facts regs place answer after = (answer ≡ StaleUse None) × Becomes after regs
ReadRow Cleared facts regs place answer after = (answer ≡ StaleUse None) × Becomes after regs

-- the handle that a register holds, or nothing if it holds none
abbrev pub handle_of : Reg → Held
handle_of Empty = held.Nothing
handle_of (Own s) = held.Own s
handle_of (Ref s) = held.Ref s
handle_of Freed = held.Nothing
handle_of Cleared = held.Nothing

-- the register that holds this handle, or an empty one if there is none
abbrev pub reg_of : Held → Reg
reg_of held.Nothing = Empty
reg_of (held.Own s) = Own s
reg_of (held.Ref s) = Ref s

-- An exchange with a cell: it gave what the register held, and the register holds what it found.
-- The answer names it in the cell's history.
abbrev pub SwapRow : List CellEntry → Regs → ℕ → Answer → Regs → Type 0
SwapRow history regs reg answer after =
    (entry : ℕ) × (e : CellEntry) × (answer ≡ Swapped entry) × (slice_get history entry ≡ Some e)
    × (e.gave ≡ handle_of (regs reg)) × Becomes after (with regs reg (reg_of e.found))

-- the answer of an op, and its thread's registers after it
abbrev pub Row : Facts → Op → Regs → Answer → Regs → Type 0
Row facts (ops.Alloc reg partition size) regs answer after = AllocRow (regs reg) facts regs reg size answer after
Row facts (ops.Copy from to) regs answer after = CopyRow (regs from) facts regs to answer after
Row facts (ops.Reset reg) regs answer after = ResetRow (regs reg) regs reg answer after
Row facts (ops.Free reg) regs answer after = FreeRow (regs reg) regs reg answer after
Row facts (ops.Write reg value) regs answer after = WriteRow (regs reg) regs answer after
Row facts (ops.Read reg place) regs answer after = ReadRow (regs reg) facts regs place answer after
Row facts (ops.Swap cell reg) regs answer after = SwapRow (facts.cells cell) regs reg answer after
Row facts ops.Purge regs answer after = (slots : ℕ) × (answer ≡ Purged slots) × Becomes after regs

-- the registers of each thread, by the thread's number
abbrev pub AllRegs : Type 0
AllRegs = ℕ → Regs

-- the registers of all threads, with those of one thread replaced
abbrev pub with_thread : AllRegs → ℕ → Regs → AllRegs
with_thread all thread regs t = if t == thread then regs else all t

-- record by record, each answer is the one that the registers require, and leads to the next registers
abbrev pub RowsTo : Facts → AllRegs → List Played → AllRegs → Type 0
RowsTo facts all [] after = after ≡ all
RowsTo facts all (p ∷ ps) after =
    (next : Regs) × Row facts p.op (all p.thread) p.answer next × RowsTo facts (with_thread all p.thread next) ps after

-- the registers at the start, all of which are empty
abbrev pub no_regs : AllRegs
no_regs thread reg = Empty

-- the slot that an answer made, with its usable number
abbrev pub made_of : Answer → Option (SlotName × ℕ)
made_of (Made seen usable) = Some (seen.slot, usable)
made_of (Done seen) = None
made_of (Value seen value) = None
made_of (Dangling seen value) = None
made_of (SecondFree seen) = None
made_of (NotOwner seen) = None
made_of StaleReset = None
made_of (StaleUse seen) = None
made_of Nothing = None
made_of Filled = None
made_of NotRef = None
made_of (Shared seen) = None
made_of OutOfRange = None
made_of TooLarge = None
made_of (Full entry) = None
made_of (Swapped entry) = None
made_of (Purged slots) = None
made_of Uncounted = None

-- the usable number of slot s if this made it, else another number
abbrev pub usable_or : Option (SlotName × ℕ) → SlotName → ℕ → ℕ
usable_or None s other = other
usable_or (Some m) s other = if same_slot m.0 s then m.1 else other

-- the usable number of slot s by the first record that made it, and 0 if none did
abbrev pub usable_in : List Played → SlotName → ℕ
usable_in [] s = 0
usable_in (p ∷ ps) s = usable_or (made_of p.answer) s (usable_in ps s)

-- the op asks for a slot in a partition without reference counts
abbrev pub is_plain_op : Rules → Op → Bool
is_plain_op rules (ops.Alloc reg partition size) = nat_le rules.plain_from partition
is_plain_op rules (ops.Copy from to) = false
is_plain_op rules (ops.Reset reg) = false
is_plain_op rules (ops.Free reg) = false
is_plain_op rules (ops.Write reg value) = false
is_plain_op rules (ops.Read reg place) = false
is_plain_op rules (ops.Swap cell reg) = false
is_plain_op rules ops.Purge = false

-- whether slot s is in a plain partition if this record made it, else the other
abbrev pub plain_or : Option (SlotName × ℕ) → Played → SlotName → Bool → Bool
plain_or None p s other = other
plain_or (Some m) p s other = if same_slot m.0 s then is_plain_op p.rules p.op else other

-- whether slot s is in a plain partition, by the first record that made it, and not if none did
abbrev pub plain_in : List Played → SlotName → Bool
plain_in [] s = false
plain_in (p ∷ ps) s = plain_or (made_of p.answer) p s (plain_in ps s)

-- What these records say of a slot: its usable number and its partition are those of the first record that made it. The usable
-- number of a slot for a size is given, and so are the cells.
abbrev pub facts_with : (ℕ → ℕ) → List Played → (ℕ → List CellEntry) → Facts
facts_with usable_of ps cells = record { usable_of = usable_of; usable_at = usable_in ps; plain_at = plain_in ps; cells = cells }

-- every answer and every register is the one that the rows require
abbrev pub AreRegisters : (ℕ → ℕ) → (ℕ → List CellEntry) → List Played → Type 0
AreRegisters usable_of cells ps = (after : AllRegs) × RowsTo (facts_with usable_of ps cells) no_regs ps after
