-- The content of a slot, and what a read may return.
use Rattle.std.specs.Prelude.{◌≡◌, ◌≢◌, ℕ, ◌<◌, ◌≤◌, ◌⊎◌, List, ◌∷◌, ◌++◌, Contains}
use Rattle.pa_slot.specs.declared.word.SlotName.{SlotName}
use Rattle.pa_slot.specs.Count.{number_of}
use Rattle.pa_slot.specs.Titles.{poison}
use Rattle.pa_trace.specs.declared.script.Op.TheVariants as ops
use Rattle.pa_record.specs.declared.entry.Seen.{Seen}
use Rattle.pa_record.specs.declared.entry.Answer.{Answer}
use Rattle.pa_record.specs.declared.entry.Answer.TheVariants.{Made, Done, Value, Dangling}
use Rattle.pa_record.specs.declared.history.CellEntry.{CellEntry}
use Rattle.pa_rules.specs.declared.register.Register.TheVariants.{Ref}
use Rattle.pa_rules.specs.declared.played.Played.{Played}
use Rattle.pa_rules.specs.Registers.{Regs, AllRegs, RowsTo, no_regs, facts_with}

-- a record made slot s, and found this number
abbrev pub IsMadeAt : List Played → SlotName → ℕ → Type 0
IsMadeAt ps s n =
    (p : Played) × (seen : Seen) × (usable : ℕ) × Contains ps p × (p.answer ≡ Made seen usable)
    × (seen.slot ≡ s) × (number_of seen.found.0 ≡ n)

-- a record wrote this value to slot s, and found this number
abbrev pub IsWrittenAt : List Played → SlotName → ℕ → ℕ → Type 0
IsWrittenAt ps s n value =
    (p : Played) × (seen : Seen) × (reg : ℕ) × Contains ps p × (p.op ≡ ops.Write reg value) × (p.answer ≡ Done seen)
    × (seen.slot ≡ s) × (number_of seen.found.0 ≡ n)

-- the write of this value found a number below k, and slot s was made at no number between the two
abbrev pub IsWrittenFor : List Played → SlotName → ℕ → ℕ → ℕ → Type 0
IsWrittenFor ps s k n value = IsWrittenAt ps s n value × (n < k) × ((m : ℕ) → IsMadeAt ps s m → n < m → m < k → ⊥)

-- The content of slot s at number k: the value of its last write that found a number below k and comes after the last time
-- below k at which it was made, or 0 if there is no such write.
abbrev pub IsContent : List Played → SlotName → ℕ → ℕ → Type 0
IsContent ps s k value =
    ((n : ℕ) × IsWrittenFor ps s k n value × ((m other : ℕ) → IsWrittenFor ps s k m other → n < m → ⊥))
    ⊎ ((value ≡ 0) × ((n other : ℕ) → IsWrittenFor ps s k n other → ⊥))

-- what an answer says was read: a slot that is held gives its content at the number found, a freed one poison
abbrev pub IsReadExact : List Played → Answer → Type 0
IsReadExact ps (Value seen value) = IsContent ps seen.slot (number_of seen.found.0) value
IsReadExact ps (Dangling seen value) = value ≡ poison
IsReadExact ps answer = Unit {0}

-- each value that was read is the content or poison, as the slot was held or freed
abbrev pub AreExactContents : List Played → Type 0
AreExactContents ps = (p : Played) → Contains ps p → IsReadExact ps p.answer

-- While another thread's free of the slot is under way, a read through a raw_ptr may find poison already.

-- the record y freed slot s by its owner, and found this number
abbrev pub IsFreedBy : List Played → SlotName → ℕ → Played → Type 0
IsFreedBy ps s n y =
    Contains ps y × (seen : Seen) × (reg : ℕ) × (y.op ≡ ops.Free reg) × (y.answer ≡ Done seen) × (seen.slot ≡ s)
    × (number_of seen.found.0 ≡ n)

-- y's free of slot s is the first that found a number not below k
abbrev pub IsNextFree : List Played → SlotName → ℕ → Played → Type 0
IsNextFree ps s k y =
    (n : ℕ) × IsFreedBy ps s n y × (k ≤ n) × ((m : ℕ) (z : Played) → IsFreedBy ps s m z → k ≤ m → n ≤ m)

-- these are the registers of the record's thread just before it
abbrev pub HasRegs : (ℕ → ℕ) → (ℕ → List CellEntry) → List Played → Played → Regs → Type 0
HasRegs usable_of cells ps x regs =
    (before after : List Played) × (all : AllRegs) × (ps ≡ before ++ x ∷ after)
    × RowsTo (facts_with usable_of ps cells) no_regs before all × (regs ≡ all x.thread)

-- the record reads slot s through a raw_ptr
abbrev pub ReadsByRef : (ℕ → ℕ) → (ℕ → List CellEntry) → List Played → Played → SlotName → Type 0
ReadsByRef usable_of cells ps x s =
    (reg place : ℕ) × (regs : Regs) × (x.op ≡ ops.Read reg place) × HasRegs usable_of cells ps x regs × (regs reg ≡ Ref s)

-- the record may read poison at number k: it reads the slot through a raw_ptr,
-- and the slot's next free is another thread's, in the same phase
abbrev pub IsBeingFreed : (ℕ → ℕ) → (ℕ → List CellEntry) → List Played → Played → SlotName → ℕ → Type 0
IsBeingFreed usable_of cells ps x s k =
    ReadsByRef usable_of cells ps x s × (y : Played) × IsNextFree ps s k y × (y.thread ≢ x.thread) × (y.phase ≡ x.phase)

-- what an answer may have read: of a held slot its content at the number found,
-- or poison if it is being freed then, and of a freed slot poison
abbrev pub IsReadAllowed : (ℕ → ℕ) → (ℕ → List CellEntry) → List Played → Played → Answer → Type 0
IsReadAllowed usable_of cells ps x (Value seen value) =
    IsContent ps seen.slot (number_of seen.found.0) value
    ⊎ ((value ≡ poison) × IsBeingFreed usable_of cells ps x seen.slot (number_of seen.found.0))
IsReadAllowed usable_of cells ps x (Dangling seen value) = value ≡ poison
IsReadAllowed usable_of cells ps x answer = Unit {0}

-- each value that was read is one that the rules allow
abbrev pub AreContents : (ℕ → ℕ) → (ℕ → List CellEntry) → List Played → Type 0
AreContents usable_of cells ps = (x : Played) → Contains ps x → IsReadAllowed usable_of cells ps x x.answer
