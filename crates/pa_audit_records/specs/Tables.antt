-- The tables that the checkers keep.
use Rattle.std.specs.Prelude.{◌≡◌, ℕ, Bool, false, ◌&&◌, ◌+◌, ◌*◌, ◌<◌, if◌then◌else◌, nat_lt, List, Option, Some, Contains, slice_index_or}
use Rattle.std.specs.Option.{unwrap_or}
use Rattle.pa_slot.specs.declared.word.SlotName.{SlotName}
use Rattle.pa_trace.specs.declared.script.Op.{Op}
use Rattle.pa_trace.specs.declared.script.Op.TheVariants.{Read}
use Rattle.pa_trace.specs.Limits.{register_count}
use Rattle.pa_rules.specs.declared.played.Played.{Played}
use Rattle.pa_rules.specs.declared.register.Register.TheVariants.{Empty}
use Rattle.pa_record.specs.declared.history.CellEntry.{CellEntry}
use Rattle.pa_rules.specs.Sizes.{usable_of}
use Rattle.pa_rules.specs.Registers.{Reg, AllRegs, Facts, usable_in, plain_in, facts_with, with, with_thread}
use Rattle.pa_rules.specs.Changes.{change_of, changed}
use Rattle.pa_audit_records.specs.Keys.{name_key}
use Rattle.pa_audit_records.specs.ByKeys.{value_at}
use Rattle.pa_audit_records.specs.declared.known.SlotFacts.{SlotFacts}
use Rattle.pa_audit_records.specs.declared.known.KnownSlots.{KnownSlots}

-- key k has v now, and the other keys have what they had
pub record Puts {V : Type 0} (f g : ℕ → Option V) (k : ℕ) (v : V) : Type 0 where
  pub here : g k ≡ Some v
  pub other : (q : ℕ) → (q ≡ k → ⊥) → g q ≡ f q

-- what is known of a slot that no record made: no bytes of it are usable, and it isn't plain
abbrev pub unmade : SlotFacts
unmade = record { usable = 0; plain = false }

-- what a table by the slots' numbers has of a slot
abbrev pub facts_at : (ℕ → Option SlotFacts) → SlotName → SlotFacts
facts_at at s = unwrap_or (at (name_key s)) unmade

-- the table has of each slot what the records say of it
abbrev pub AreSlotFacts : List Played → (ℕ → Option SlotFacts) → Type 0
AreSlotFacts ps at = (s : SlotName) → s.start < 4294967296 → facts_at at s ≡ record { usable = usable_in ps s; plain = plain_in ps s }

-- the usable number of each slot is known
abbrev pub AreUsables : List Played → KnownSlots → Type 0
AreUsables ps known = (s : SlotName) → s.start < 4294967296 → (facts_at (value_at known.slots) s).usable ≡ usable_in ps s

-- it is known of each slot whether it is plain
abbrev pub ArePlains : List Played → KnownSlots → Type 0
ArePlains ps known =
    (s : SlotName) → s.start < 4294967296 → (known.any_plain && (facts_at (value_at known.slots) s).plain) ≡ plain_in ps s

-- the op reads a slot
abbrev pub ReadsSlot : Op → Type 0
ReadsSlot op = (reg : ℕ) × (place : ℕ) × (op ≡ Read reg place)

-- it is known of each slot whether it is plain, and, if one of the records reads a slot, how many of its bytes are usable
abbrev pub SuitsRecords : List Played → KnownSlots → Type 0
SuitsRecords ps known = ((x : Played) → Contains ps x → ReadsSlot x.op → AreUsables ps known) × ArePlains ps known

-- the registers of all threads in a list, 64 of each thread, and an empty one past the end
abbrev pub regs_in : List Reg → AllRegs
regs_in list t r = if nat_lt r register_count then slice_index_or list (register_count * t + r) Empty else Empty

-- the list has the registers of all threads
abbrev pub AreRegsOf : List Reg → AllRegs → Type 0
AreRegsOf list all = (t r : ℕ) → regs_in list t r ≡ all t r

-- the registers with one of them changed
abbrev pub with_register : AllRegs → ℕ → ℕ → Reg → AllRegs
with_register all thread reg holds = with_thread all thread (with (all thread) reg holds)

-- what the rows of a version need besides the registers, by these records and cells
abbrev pub facts_by : ℕ → (ℕ → List CellEntry) → List Played → Facts
facts_by version cells ps = facts_with (usable_of version) ps cells

-- the registers after a record, by its answer
abbrev pub regs_next : (ℕ → List CellEntry) → AllRegs → Played → AllRegs
regs_next cells all x = with_thread all x.thread (changed (all x.thread) (change_of cells x.op x.answer))
