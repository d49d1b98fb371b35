-- What reads gave: from what is known of all logs at the end of each phase.
use Rattle.std.specs.Prelude.{◌≡◌, ◌≢◌, ℕ, ◌⊎◌, List, Bool, true, false, Contains}
use Rattle.pa_slot.specs.declared.word.SlotName.{SlotName}
use Rattle.pa_slot.specs.Count.{number_of}
use Rattle.pa_slot.specs.Titles.{poison}
use Rattle.pa_region.specs.declared.view.View.{View}
use Rattle.pa_region.specs.AllReads.{HasAllLogs}
use Rattle.pa_trace.specs.declared.script.Op.TheVariants as ops
use Rattle.pa_record.specs.declared.entry.Seen.{Seen}
use Rattle.pa_record.specs.declared.entry.Answer.TheVariants.{Value, Dangling}
use Rattle.pa_record.specs.declared.history.CellEntry.{CellEntry}
use Rattle.pa_rules.specs.declared.register.Register.TheVariants.{Empty, Own, Ref, Freed, Cleared}
use Rattle.pa_rules.specs.declared.played.Played.{Played}
use Rattle.pa_rules.specs.Registers.{Reg, Regs}
use Rattle.pa_rules.specs.Contents.{IsContent, HasRegs, IsNextFree, AreContents}
use Rattle.pa_rules.specs.Flow.{IsInPhases}
use Rattle.pa_rules.specs.Sizes.{usable_of}
use Rattle.pa_logs.specs.Told.{ToldRecord, played_in, told_until, AreLogs}
use Rattle.pa_logs.specs.Touches.{title_of, IsReadTold, AreTold}

-- A view knows all logs, and they are those of these records.
pub record KnowsAll (v : View) (ts : List ToldRecord) : Type 0 where
  pub logs : AreLogs v ts
  pub all : HasAllLogs v

-- at the end of each phase a view knows all logs of the records up to it
abbrev pub HaveEnds : List ToldRecord → Type 0
HaveEnds ts = (x : ToldRecord) → Contains ts x → (v : View) × KnowsAll v (told_until x.played.phase ts)

-- What is known of a run's log segments. Each is what its answer requires. At the end and at the end of each phase a view knows all
-- logs. No record of a later phase found a lower number of a slot than one of an earlier phase left there.
pub record IsReadOff (sizes : SlotName → ℕ) (v : View) (ts : List ToldRecord) : Type 0 where
  pub told : AreTold sizes ts
  pub last : KnowsAll v ts
  pub ends : HaveEnds ts
  pub phases : IsInPhases (played_in ts)

-- the next free of the slot from number k on is another thread's than the record's, in the same phase
abbrev pub MayBePoison : List Played → Played → SlotName → ℕ → Type 0
MayBePoison ps x s k = (y : Played) × IsNextFree ps s k y × (y.thread ≢ x.thread) × (y.phase ≡ x.phase)

-- What a read of a slot that the allocator holds gave is its content, or poison, if its seat had no Own of the slot and that may be.
abbrev pub GaveRight : List Played → Played → Seen → ℕ → Bool → Type 0
GaveRight ps x seen value owned =
    IsContent ps seen.slot (number_of seen.found.0) value
    ⊎ ((owned ≡ false) × (value ≡ poison) × MayBePoison ps x seen.slot (number_of seen.found.0))

-- Each read gave what it may. Of a slot that is held it gave the content, or poison, and of a freed one poison.
pub record ReadsFollow : Type 0 where
  pub held : (sizes : SlotName → ℕ) (v : View) (ts : List ToldRecord) (x : ToldRecord) (seen : Seen) (value place : ℕ) (owned : Bool) →
      IsReadOff sizes v ts → Contains ts x → x.played.answer ≡ Value seen value →
      IsReadTold (title_of sizes seen.slot) place seen.found.0 value owned x.stretch → GaveRight (played_in ts) x.played seen value owned
  pub freed : (sizes : SlotName → ℕ) (v : View) (ts : List ToldRecord) (x : ToldRecord) (seen : Seen) (value : ℕ) →
      IsReadOff sizes v ts → Contains ts x → x.played.answer ≡ Dangling seen value → value ≡ poison

-- The register holds a handle of the slot that was read. A read through an Own says that its seat has it.
abbrev pub ReadsThrough : (SlotName → ℕ) → Reg → Seen → ℕ → ℕ → ToldRecord → Type 0
ReadsThrough sizes Empty seen place value x = ⊥
ReadsThrough sizes (Own s) seen place value x = IsReadTold (title_of sizes seen.slot) place seen.found.0 value true x.stretch
ReadsThrough sizes (Ref s) seen place value x =
    (s ≡ seen.slot) × (owned : Bool) × IsReadTold (title_of sizes seen.slot) place seen.found.0 value owned x.stretch
ReadsThrough sizes Freed seen place value x = ⊥
ReadsThrough sizes Cleared seen place value x = ⊥

-- each value was read through a handle, by the registers just before its record, with the usable bytes of this version
abbrev pub HaveReaders : ℕ → (SlotName → ℕ) → (ℕ → List CellEntry) → List ToldRecord → Type 0
HaveReaders version sizes cells ts =
    (x : ToldRecord) (seen : Seen) (value : ℕ) → Contains ts x → x.played.answer ≡ Value seen value →
    (reg place : ℕ) × (regs : Regs) × (x.played.op ≡ ops.Read reg place) × HasRegs (usable_of version) cells (played_in ts) x.played regs
    × ReadsThrough sizes (regs reg) seen place value x

-- The contents are those of a legal run.
abbrev pub ContentsFollow : Type 0
ContentsFollow =
    (version : ℕ) (sizes : SlotName → ℕ) (cells : ℕ → List CellEntry) (v : View) (ts : List ToldRecord) →
    IsReadOff sizes v ts → HaveReaders version sizes cells ts → AreContents (usable_of version) cells (played_in ts)
