-- Where the raw_ptr in a register comes from: the copy that made it, followed back through the cells by which threads handed it over.
use Rattle.std.specs.Prelude.{◌≡◌, ℕ, ◌+◌, ◌<◌, List, Option, Some, None, Contains, slice_get}
use Rattle.pa_slot.specs.Run.{Mark, IsQuarantined}
use Rattle.pa_trace.specs.declared.script.Op.{Op}
use Rattle.pa_trace.specs.declared.script.Op.TheVariants as ops
use Rattle.pa_record.specs.declared.entry.Answer.{Answer}
use Rattle.pa_record.specs.declared.entry.Answer.TheVariants.{Done, Swapped}
use Rattle.pa_record.specs.declared.history.CellEntry.{CellEntry}
use Rattle.pa_record.specs.declared.history.Held.{Held}
use Rattle.pa_record.specs.declared.history.Held.TheVariants.{Nothing, Own, Ref}
use Rattle.pa_rules.specs.declared.played.Played.{Played}
use Rattle.pa_rules.specs.Played.{mark_of}
use Rattle.pa_rules.specs.Cells.{IsExchange}
use Rattle.pa_legal.specs.Owners.{HaveHandles}

-- the register that an op names first
abbrev pub first_register : Op → Option ℕ
first_register (ops.Alloc reg partition size) = Some reg
first_register (ops.Copy from to) = Some from
first_register (ops.Reset reg) = Some reg
first_register (ops.Free reg) = Some reg
first_register (ops.Write reg value) = Some reg
first_register (ops.Read reg place) = Some reg
first_register (ops.Swap cell reg) = Some reg
first_register ops.Purge = None

-- the register of an exchange, if what it found is a raw_ptr
abbrev pub put_held : ℕ → Held → Option ℕ
put_held reg Nothing = None
put_held reg (Own s) = None
put_held reg (Ref s) = Some reg

-- the register of an exchange, if there is such an entry and what it found is a raw_ptr
abbrev pub put_found : ℕ → Option CellEntry → Option ℕ
put_found reg None = None
put_found reg (Some e) = put_held reg e.found

-- the register into which a record put a raw_ptr: that of a copy that was done, or that of an exchange that found one
abbrev pub put_into : (ℕ → List CellEntry) → Op → Answer → Option ℕ
put_into cells (ops.Copy from to) (Done seen) = Some to
put_into cells (ops.Swap k reg) (Swapped j) = put_found reg (slice_get (cells k) j)
put_into cells op answer = None

-- y is the last record of x's thread before x that put a raw_ptr into the register
pub record IsLastPut (cells : ℕ → List CellEntry) (ps : List Played) (x : Played) (reg : ℕ) (y : Played) : Type 0 where
  pub among : Contains ps y
  pub thread : y.thread ≡ x.thread
  pub before : y.line < x.line
  pub puts : put_into cells y.op y.answer ≡ Some reg
  pub last : (z : Played) → Contains ps z → z.thread ≡ x.thread → y.line < z.line → z.line < x.line →
      put_into cells z.op z.answer ≡ Some reg → ⊥

-- the record is of a copy
abbrev pub IsCopy : Played → Type 0
IsCopy y = (from : ℕ) × (to : ℕ) × (y.op ≡ ops.Copy from to)

-- z made the exchange before y's with the same cell, so y found what z gave
pub record IsGivenBy (cells : ℕ → List CellEntry) (ps : List Played) (y z : Played) : Type 0 where
  pub cell : ℕ
  pub reg : ℕ
  pub index : ℕ
  pub entry : CellEntry
  pub op : y.op ≡ ops.Swap cell reg
  pub answer : y.answer ≡ Swapped (index + 1)
  pub exchange : IsExchange cells cell index entry
  pub giver : Contains ps z
  pub line : z.line ≡ entry.line

-- The raw_ptr in the register that x's op names first comes from the copy on this line: the last record that put a raw_ptr there is that
-- copy, or it is an exchange that found what another record gave, whose raw_ptr comes from there.
pub data HasOrigin (cells : ℕ → List CellEntry) (ps : List Played) : Played → ℕ → Type 0 where
  ByCopy : {x : Played} {line : ℕ} (y : Played) (reg : ℕ) → first_register x.op ≡ Some reg → IsLastPut cells ps x reg y → IsCopy y →
      line ≡ y.line → HasOrigin cells ps x line
  ByExchange : {x : Played} {line : ℕ} (y z : Played) (reg : ℕ) → first_register x.op ≡ Some reg → IsLastPut cells ps x reg y →
      IsGivenBy cells ps y z → HasOrigin cells ps z line → HasOrigin cells ps x line

-- what is known of the records of a trace of some version
abbrev pub HaveHandlesOf : (ℕ → List CellEntry) → List Played → Type 0
HaveHandlesOf cells ps = (version : ℕ) × HaveHandles version cells ps

-- What a legal run says of origins.
--   each: the raw_ptr through which a record used a slot in quarantine has one
--   one: and no other
pub record UsesHaveOrigins : Type 0 where
  pub each : (version : ℕ) (cells : ℕ → List CellEntry) (ps : List Played) (x : Played) (m : Mark) →
      HaveHandles version cells ps → Contains ps x → mark_of x ≡ Some m → IsQuarantined m.found → (line : ℕ) × HasOrigin cells ps x line
  pub one : (version : ℕ) (cells : ℕ → List CellEntry) (ps : List Played) (x : Played) (line other : ℕ) →
      HaveHandles version cells ps →
      HasOrigin cells ps x line → HasOrigin cells ps x other → line ≡ other
