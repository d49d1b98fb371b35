-- What the log segment of an op owes to the totals words, that it adds nothing to them, and what a refusal leaves of the words.
use Rattle.std.specs.Prelude.{◌≡◌, ℕ, ◌+◌, List, if◌then◌else◌, Option, Some, None, Contains, slice_index}
use Rattle.std.specs.List.{sum_by}
use Rattle.pa_trace.specs.declared.script.Op.{Op}
use Rattle.pa_trace.specs.declared.script.Op.TheVariants as ops
use Rattle.pa_record.specs.declared.entry.Answer.{Answer}
use Rattle.pa_record.specs.declared.entry.Answer.TheVariants as answers
use Rattle.pa_region.specs.declared.view.Entry.{Entry}
use Rattle.pa_region.specs.declared.view.Entry.TheVariants.{Added}
use Rattle.pa_region.specs.declared.view.View.{View}
use Rattle.pa_region.specs.Totals.{is_of_kind, owes_as}
use Rattle.pa_region.specs.Views.{Knows}
use Rattle.pa_rules.specs.declared.register.Register.TheVariants.{Empty, Own, Ref, Freed, Cleared}
use Rattle.pa_logs.specs.Touches.{StepMade, step_in}
use Rattle.pa_op_specs.specs.Stocks.{StockRegister, register_in}

-- the bytes of a register's slot, 0 if it has no handle
abbrev pub bytes_in : StockRegister → ℕ
bytes_in Empty = 0
bytes_in (Own h) = h.title.len
bytes_in (Ref h) = h.title.len
bytes_in Freed = 0
bytes_in Cleared = 0

-- the bytes of the slot on which an op steps through its register
abbrev pub bytes_through : List StockRegister → Op → ℕ
bytes_through registers (ops.Alloc reg partition size) = 0
bytes_through registers (ops.Copy from to) = bytes_in (register_in registers from)
bytes_through registers (ops.Reset reg) = bytes_in (register_in registers reg)
bytes_through registers (ops.Free reg) = bytes_in (register_in registers reg)
bytes_through registers (ops.Write reg value) = bytes_in (register_in registers reg)
bytes_through registers (ops.Read reg place) = 0
bytes_through registers (ops.Swap cell reg) = 0
bytes_through registers ops.Purge = 0

-- The bytes of the slot on which an op with this answer steps. Of a slot that was made all but those of its count word are usable.
abbrev pub bytes_stepped : List StockRegister → Op → Answer → ℕ
bytes_stepped registers op (answers.Made seen usable) = usable + 8
bytes_stepped registers op answer = bytes_through registers op

-- what a step on a slot of this many bytes owes to the totals words of kind q
abbrev pub owed_by : ℕ → Option StepMade → ℕ → ℕ
owed_by q None bytes = 0
owed_by q (Some d) bytes = if is_of_kind q d.step d.found then bytes else 0

-- A log segment owes to the totals words of each kind what the step of the op's answer does, by the registers before the op.
abbrev pub OwesOf : List StockRegister → Op → Answer → List Entry → Type 0
OwesOf registers op answer es = (q : ℕ) → sum_by (owes_as q) es ≡ owed_by q (step_in op answer) (bytes_stepped registers op answer)

-- the log segment adds nothing to the totals words
abbrev pub AddsNothing : List Entry → Type 0
AddsNothing es = (word bytes : ℕ) → Contains es (Added word bytes) → ⊥

-- A slot that an answer says was made has the bytes of this register's slot.
abbrev pub IsMadeIn : StockRegister → Answer → Type 0
IsMadeIn register (answers.Made seen usable) = usable + 8 ≡ bytes_in register
IsMadeIn register answer = Unit {0}

-- the answer says that the op wasn't done
abbrev pub IsNotDone : Answer → Type 0
IsNotDone (answers.Made seen usable) = ⊥
IsNotDone (answers.Done seen) = ⊥
IsNotDone (answers.Value seen value) = ⊥
IsNotDone (answers.Dangling seen value) = ⊥
IsNotDone (answers.Swapped index) = ⊥
IsNotDone (answers.Purged slots) = ⊥
IsNotDone answer = Unit {0}

-- a refusal changes no word that was known before
abbrev pub KeepsWords : Answer → View → View → Type 0
KeepsWords answer before after =
    IsNotDone answer → (q : ℕ) → Knows before q → slice_index after.words q ≡ slice_index before.words q
