-- What a read may report, by the registers of its thread.
use Rattle.std.specs.Prelude.{◌≡◌, ◌≢◌, ℕ, ◌⊎◌, List}
use Rattle.pa_slot.specs.declared.word.SlotName.{SlotName}
use Rattle.pa_slot.specs.Count.{number_of}
use Rattle.pa_slot.specs.Titles.{poison}
use Rattle.pa_trace.specs.declared.script.Op.{Op}
use Rattle.pa_trace.specs.declared.script.Op.TheVariants as ops
use Rattle.pa_record.specs.declared.entry.Answer.{Answer}
use Rattle.pa_record.specs.declared.entry.Answer.TheVariants.{Value, Dangling}
use Rattle.pa_rules.specs.declared.register.Register.TheVariants.{Ref}
use Rattle.pa_record.specs.declared.history.CellEntry.{CellEntry}
use Rattle.pa_rules.specs.declared.played.Played.{Played}
use Rattle.pa_rules.specs.declared.verdict.Place.TheVariants as places
use Rattle.pa_rules.specs.Registers.{Regs}
use Rattle.pa_rules.specs.RecordDemands.{RegistersDemand}
use Rattle.pa_rules.specs.Sizes.{usable_of}
use Rattle.pa_rules.specs.Contents.{IsContent, IsNextFree}

-- each record has an answer that its thread's registers require by the rules of the version
abbrev pub MeetRegisters : ℕ → (ℕ → List CellEntry) → List Played → Type 0
MeetRegisters version cells ps = (i : ℕ) → RegistersDemand (usable_of version) cells ps (places.Record i)

-- the op reads slot s through a raw_ptr
abbrev pub ReadsRaw : Regs → Op → SlotName → Type 0
ReadsRaw regs op s = (reg place : ℕ) × (op ≡ ops.Read reg place) × (regs reg ≡ Ref s)

-- the record y is another thread's than x, in its phase
abbrev pub IsOther : Played → Played → Type 0
IsOther y x = (y.thread ≢ x.thread) × (y.phase ≡ x.phase)

-- the next free of slot s from number k on is another thread's than x, in its phase
abbrev pub IsFreedMeanwhile : List Played → Played → SlotName → ℕ → Type 0
IsFreedMeanwhile ps x s k = (y : Played) × IsNextFree ps s k y × IsOther y x

-- poison, read through a raw_ptr while the slot was being freed
abbrev pub MayFindPoison : List Played → Regs → Played → SlotName → ℕ → ℕ → Type 0
MayFindPoison ps regs x s k value = (value ≡ poison) × ReadsRaw regs x.op s × IsFreedMeanwhile ps x s k

-- the value that a record's answer says was read is one that it may give
abbrev pub MayGive : List Played → Regs → Played → Answer → Type 0
MayGive ps regs x (Value seen value) =
    IsContent ps seen.slot (number_of seen.found.0) value ⊎ MayFindPoison ps regs x seen.slot (number_of seen.found.0) value
MayGive ps regs x (Dangling seen value) = value ≡ poison
MayGive ps regs x answer = Unit {0}

-- the answer has a value that depends on no slot's content, or none at all
abbrev pub NeedsNoContent : Answer → Type 0
NeedsNoContent (Value seen value) = ⊥
NeedsNoContent (Dangling seen value) = value ≡ poison
NeedsNoContent answer = Unit {0}
