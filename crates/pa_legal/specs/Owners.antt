-- Handles in registers: which record put them there, and what the owner of a slot finds.
use Rattle.std.specs.Prelude.{◌≡◌, ◌≢◌, ℕ, ◌<◌, List, Some, Contains}
use Rattle.pa_slot.specs.Count.{held_of}
use Rattle.pa_slot.specs.Run.{Mark, Slots}
use Rattle.pa_trace.specs.declared.script.Trace.{Trace}
use Rattle.pa_record.specs.declared.history.CellEntry.{CellEntry}
use Rattle.pa_rules.specs.declared.register.Register.TheVariants.{Empty, Own}
use Rattle.pa_rules.specs.declared.played.Played.{Played}
use Rattle.pa_rules.specs.Played.{mark_of, marks_of}
use Rattle.pa_rules.specs.Cells.{AreCells}
use Rattle.pa_rules.specs.Changes.{change_of}
use Rattle.pa_rules.specs.Contents.{HasRegs}
use Rattle.pa_rules.specs.Registers.{Reg, Regs, AreRegisters}
use Rattle.pa_rules.specs.Rising.{RiseByLine}
use Rattle.pa_rules.specs.Seen.{IsSeenInOrder}
use Rattle.pa_rules.specs.Sizes.{usable_of}
use Rattle.pa_rules.specs.Told.{Told, records_of}
use Rattle.pa_rules.specs.Legal.{IsLegalTold}

-- y is the last record of x's thread before x that changed the register, and it left this there
pub record WasPut (cells : ℕ → List CellEntry) (ps : List Played) (x : Played) (reg : ℕ) (r : Reg) (y : Played) : Type 0 where
  pub among : Contains ps y
  pub thread : y.thread ≡ x.thread
  pub before : y.line < x.line
  pub puts : change_of cells y.op y.answer ≡ Some (reg, r)
  pub last : (z : Played) (other : Reg) → Contains ps z → z.thread ≡ x.thread → y.line < z.line → z.line < x.line →
      change_of cells z.op z.answer ≡ Some (reg, other) → ⊥

-- What is known of the records of a trace of this version: they are in the order of their lines,
-- and four clauses of a legal run hold.
pub record HaveHandles (version : ℕ) (cells : ℕ → List CellEntry) (ps : List Played) : Type 0 where
  pub rising : RiseByLine ps
  pub exchanges : AreCells cells ps
  pub registers : AreRegisters (usable_of version) cells ps
  pub slots : Slots (marks_of ps)
  pub seen : IsSeenInOrder cells ps

-- what HaveHandles asks is known of each legal run
abbrev pub LegalHasHandles : Type 0
LegalHasHandles = (t : Trace) (r : Told) → IsLegalTold t r → HaveHandles t.version r.cells (records_of t r)

-- What a register holds just before a record, if it isn't empty, was put there by a record.
abbrev pub HandlesArePut : Type 0
HandlesArePut =
    (version : ℕ) (cells : ℕ → List CellEntry) (ps : List Played) (x : Played) (regs : Regs) (reg : ℕ) →
    HaveHandles version cells ps → HasRegs (usable_of version) cells ps x regs → regs reg ≢ Empty →
    (y : Played) × WasPut cells ps x reg (regs reg) y

-- While a thread has the Own of a slot in a register, each of its records finds the slot's bit.
abbrev pub OwnersFindTheBit : Type 0
OwnersFindTheBit =
    (version : ℕ) (cells : ℕ → List CellEntry) (ps : List Played) (x : Played) (m : Mark) (regs : Regs) (reg : ℕ) →
    HaveHandles version cells ps → HasRegs (usable_of version) cells ps x regs → regs reg ≡ Own m.slot →
    mark_of x ≡ Some m → held_of m.found ≡ 1
