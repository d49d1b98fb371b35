-- What answer an op may have by what the registers hold, without the registers after it.
use Rattle.std.specs.Prelude.{◌≡◌, ℕ, Bool, true, false, ◌&&◌, ◌*◌, ◌<◌, ◌≤◌, ◌⊎◌, List, Some, Result, Ok, Err, slice_get}
use Rattle.pa_slot.specs.declared.word.SlotName.{SlotName}
use Rattle.pa_slot.specs.Count.{refs_of}
use Rattle.pa_direct.specs.Shapes.{greatest_size}
use Rattle.pa_trace.specs.declared.script.Op.{Op}
use Rattle.pa_trace.specs.declared.script.Op.TheVariants as ops
use Rattle.pa_record.specs.declared.entry.Seen.{Seen}
use Rattle.pa_record.specs.declared.entry.Answer.{Answer}
use Rattle.pa_record.specs.declared.entry.Answer.TheVariants.{Made, Done, Filled, Shared, OutOfRange, TooLarge, Full, Swapped, Purged, Uncounted}
use Rattle.pa_record.specs.declared.history.CellEntry.{CellEntry}
use Rattle.pa_trace.specs.Limits.{register_count, most_threads}
use Rattle.pa_rules.specs.declared.register.Register.TheVariants.{Empty, Own, Ref, Freed, Cleared}
use Rattle.pa_rules.specs.declared.register.Next.{Next}
use Rattle.pa_rules.specs.declared.register.Next.TheVariants.{Refused, Step, Look}
use Rattle.pa_rules.specs.declared.played.Played.{Played}
use Rattle.pa_rules.specs.Registers.{Reg, Facts, Regs, handle_of}
use Rattle.pa_rules.specs.Nexts.{is_owner, copy_next, reset_next, free_next, write_next, read_next, looked_free, looked_write, looked_read}

-- the answer says that a step on the slot was done
abbrev pub IsDoneAt : SlotName → Answer → Type 0
IsDoneAt s answer = (seen : Seen) × (seen.slot ≡ s) × (answer ≡ Done seen)

-- the answer of a request for that many bytes: too large, a slot with this usable number, or no room
abbrev pub AnswersRequest : ℕ → ℕ → Answer → Type 0
AnswersRequest usable size answer =
    ((greatest_size < size) × (answer ≡ TooLarge))
    ⊎ ((size ≤ greatest_size) × (seen : Seen) × (answer ≡ Made seen usable))
    ⊎ ((size ≤ greatest_size) × (entry : ℕ) × (answer ≡ Full entry))

-- the answer of an allocation, by what its register holds
abbrev pub AnswersAlloc : Reg → ℕ → ℕ → Answer → Type 0
AnswersAlloc Empty usable size answer = AnswersRequest usable size answer
AnswersAlloc (Own s) usable size answer = answer ≡ Filled
AnswersAlloc (Ref s) usable size answer = answer ≡ Filled
AnswersAlloc Freed usable size answer = AnswersRequest usable size answer
AnswersAlloc Cleared usable size answer = AnswersRequest usable size answer

-- the answer of a copy to a register without a handle: a step on slot s, unless no raw_ptr to it would be counted
abbrev pub AnswersPoint : Bool → SlotName → Answer → Type 0
AnswersPoint true s answer = answer ≡ Uncounted
AnswersPoint false s answer = IsDoneAt s answer

-- the answer of a copy of a handle to slot s, by what the second register holds
abbrev pub AnswersCopyTo : Reg → Bool → SlotName → Answer → Type 0
AnswersCopyTo Empty plain s answer = AnswersPoint plain s answer
AnswersCopyTo (Own t) plain s answer = answer ≡ Filled
AnswersCopyTo (Ref t) plain s answer = answer ≡ Filled
AnswersCopyTo Freed plain s answer = AnswersPoint plain s answer
AnswersCopyTo Cleared plain s answer = AnswersPoint plain s answer

-- An op that its register refuses has the refusal as its answer. Any other goes to a slot, and its answer is one that it may have there.
abbrev pub AnswersOne : (SlotName → Answer → Type 0) → Result SlotName Answer → Answer → Type 0
AnswersOne goes (Ok s) answer = goes s answer
AnswersOne goes (Err refusal) answer = answer ≡ refusal

-- An op that its register refuses has the refusal as its answer. Any other makes a step on a slot or looks at it,
-- which have answers of their own.
abbrev pub AnswersNext : (steps looks : SlotName → Answer → Type 0) → Next SlotName → Answer → Type 0
AnswersNext steps looks (Refused refusal) answer = answer ≡ refusal
AnswersNext steps looks (Step s) answer = steps s answer
AnswersNext steps looks (Look s) answer = looks s answer

-- the answer of a copy, by what both registers hold and by whether each slot is plain, which only a copy of an owner asks
abbrev pub AnswersCopy : Reg → (SlotName → Bool) → Reg → Answer → Type 0
AnswersCopy holds plain_at into answer = AnswersOne (λ s a. AnswersCopyTo into (is_owner holds && plain_at s) s a) (copy_next holds) answer

-- the answer of a reset, by what its register holds
abbrev pub AnswersReset : Reg → Answer → Type 0
AnswersReset holds answer = AnswersOne IsDoneAt (reset_next holds) answer

-- the answer of a look at slot s, by what it saw
abbrev pub IsLookedAt : (Seen → Answer) → SlotName → Answer → Type 0
IsLookedAt looked s answer = (seen : Seen) × (seen.slot ≡ s) × (answer ≡ looked seen)

-- the answer of a free, by what its register holds, which only looks if that is a raw_ptr
abbrev pub AnswersFree : Reg → Answer → Type 0
AnswersFree holds answer = AnswersNext IsDoneAt (IsLookedAt looked_free) (free_next holds) answer

-- the answer of a write to slot s by its owner: a step, or that raw_ptrs point to the slot
abbrev pub AnswersOwnWrite : SlotName → Answer → Type 0
AnswersOwnWrite s answer =
    (seen : Seen) × (seen.slot ≡ s)
    × (((0 < refs_of seen.found.0) × (answer ≡ Shared seen)) ⊎ ((refs_of seen.found.0 ≡ 0) × (answer ≡ Done seen)))

-- the answer of a write, by what its register holds, which only looks if that is a raw_ptr
abbrev pub AnswersWrite : Reg → Answer → Type 0
AnswersWrite holds answer = AnswersNext AnswersOwnWrite (IsLookedAt looked_write) (write_next holds) answer

-- the answer of a read of a word of slot s, which has that many usable bytes
abbrev pub AnswersReadFrom : SlotName → ℕ → ℕ → Answer → Type 0
AnswersReadFrom s usable place answer =
    ((usable ≤ 8 * place) × (answer ≡ OutOfRange))
    ⊎ ((8 * place < usable) × (value : ℕ) × IsLookedAt (λ seen. looked_read seen value) s answer)

-- the answer of a read, by what its register holds and by the usable number of each slot
abbrev pub AnswersRead : Reg → (SlotName → ℕ) → ℕ → Answer → Type 0
AnswersRead holds usable_at place answer = AnswersOne (λ s a. AnswersReadFrom s (usable_at s) place a) (read_next holds) answer

-- the answer of an exchange with a cell of this history: an entry that gave what the register held
abbrev pub AnswersSwap : List CellEntry → Reg → Answer → Type 0
AnswersSwap history holds answer =
    (entry : ℕ) × (e : CellEntry) × (answer ≡ Swapped entry) × (slice_get history entry ≡ Some e) × (e.gave ≡ handle_of holds)

-- the answer of an op, by its thread's registers
abbrev pub MayAnswer : Facts → Op → Regs → Answer → Type 0
MayAnswer facts (ops.Alloc reg partition size) regs answer = AnswersAlloc (regs reg) (facts.usable_of size) size answer
MayAnswer facts (ops.Copy from to) regs answer = AnswersCopy (regs from) facts.plain_at (regs to) answer
MayAnswer facts (ops.Reset reg) regs answer = AnswersReset (regs reg) answer
MayAnswer facts (ops.Free reg) regs answer = AnswersFree (regs reg) answer
MayAnswer facts (ops.Write reg value) regs answer = AnswersWrite (regs reg) answer
MayAnswer facts (ops.Read reg place) regs answer = AnswersRead (regs reg) facts.usable_at place answer
MayAnswer facts (ops.Swap cell reg) regs answer = AnswersSwap (facts.cells cell) (regs reg) answer
MayAnswer facts ops.Purge regs answer = (slots : ℕ) × (answer ≡ Purged slots)

-- the registers that an op names are below 64
abbrev pub NamesRegisters : Op → Type 0
NamesRegisters (ops.Alloc reg partition size) = reg < register_count
NamesRegisters (ops.Copy from to) = (from < register_count) × (to < register_count)
NamesRegisters (ops.Reset reg) = reg < register_count
NamesRegisters (ops.Free reg) = reg < register_count
NamesRegisters (ops.Write reg value) = reg < register_count
NamesRegisters (ops.Read reg place) = reg < register_count
NamesRegisters (ops.Swap cell reg) = reg < register_count
NamesRegisters ops.Purge = Unit {0}

-- the record is of one of 16 threads, and its op names registers that exist
abbrev pub IsPlayedWithin : Played → Type 0
IsPlayedWithin x = (x.thread < most_threads) × NamesRegisters x.op
