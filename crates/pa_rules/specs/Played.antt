-- The records of a run with the ops of its trace, and what they report of the slots.
use Rattle.std.specs.Prelude.{◌≡◌, ℕ, ◌+◌, List, [], ◌∷◌, map, zip, Option, Some, None}
use Rattle.std.specs.List.{filter_map}
use Rattle.pa_slot.specs.declared.word.Step.{Step}
use Rattle.pa_slot.specs.declared.word.Step.TheVariants as steps
use Rattle.pa_slot.specs.Run.{Mark}
use Rattle.pa_trace.specs.declared.script.Rules.{Rules}
use Rattle.pa_trace.specs.declared.script.Line.{Line}
use Rattle.pa_trace.specs.declared.script.Line.TheVariants.{Phase, Do}
use Rattle.pa_trace.specs.declared.script.Op.{Op}
use Rattle.pa_trace.specs.declared.script.Op.TheVariants as ops
use Rattle.pa_record.specs.declared.entry.Entry.{Entry}
use Rattle.pa_record.specs.declared.entry.Seen.{Seen}
use Rattle.pa_record.specs.declared.entry.Answer.{Answer}
use Rattle.pa_record.specs.declared.entry.Answer.TheVariants.{Made, Done, Value, Dangling, SecondFree, NotOwner, StaleReset, StaleUse, Nothing, Filled, NotRef, Shared, OutOfRange, TooLarge, Full, Swapped, Purged, Uncounted}
use Rattle.pa_rules.specs.declared.played.Played.{Played}

-- an op line: its number in the trace, its thread, its phase, the rules by which it is played and its op
pub record OpLine : Type 0 where
  pub line : ℕ
  pub thread : ℕ
  pub phase : ℕ
  pub rules : Rules
  pub op : Op

-- the op lines of a trace with these rules, from a line on that has this number and is in this phase
abbrev pub op_lines : Rules → ℕ → ℕ → List Line → List OpLine
op_lines rules n phase [] = []
op_lines rules n phase (Phase ∷ ls) = op_lines rules (n + 1) (phase + 1) ls
op_lines rules n phase (Do thread op ∷ ls) =
    record { line = n; thread = thread; phase = phase; rules = rules; op = op } ∷ op_lines rules (n + 1) phase ls

-- the op line of a record
abbrev pub op_line_of : Played → OpLine
op_line_of p = record { line = p.line; thread = p.thread; phase = p.phase; rules = p.rules; op = p.op }

-- what the run says of a record: its line, its thread and its answer
abbrev pub entry_of : Played → Entry
entry_of p = record { line = p.line; thread = p.thread; answer = p.answer }

-- the records are those of all op lines of the trace with these rules, the first of which is line 2, after the head, in phase 1
abbrev pub AreLines : Rules → List Line → List Played → Type 0
AreLines rules ls ps = map op_line_of ps ≡ op_lines rules 2 1 ls

-- the record of an op line whose answer is the entry's
abbrev pub beside : OpLine × Entry → Played
beside (o, e) = record { line = o.line; thread = o.thread; phase = o.phase; rules = o.rules; op = o.op; answer = e.answer }

-- the entries of a run, each with the op line at its place; what one list has beyond the other's end is left out
abbrev pub played : Rules → List Line → List Entry → List Played
played rules ls es = map beside (zip (op_lines rules 2 1 ls) es)

-- the line and the thread of an op line
abbrev pub key_of_line : OpLine → ℕ × ℕ
key_of_line o = (o.line, o.thread)

-- the line and the thread that an entry of the run states
abbrev pub key_of_entry : Entry → ℕ × ℕ
key_of_entry e = (e.line, e.thread)

-- the entries of the run have the lines and the threads of the trace's op lines, in order
abbrev pub AreDue : Rules → List Line → List Entry → Type 0
AreDue rules ls es = map key_of_entry es ≡ map key_of_line (op_lines rules 2 1 ls)

-- the step that an op makes if its answer is `done`; an allocation has an answer of its own, and
-- reads, exchanges and purges make no step
abbrev pub step_of : Op → Option Step
step_of (ops.Alloc reg partition size) = None
step_of (ops.Copy from to) = Some steps.Copy
step_of (ops.Reset reg) = Some steps.Reset
step_of (ops.Free reg) = Some steps.Free
step_of (ops.Write reg value) = Some steps.Write
step_of (ops.Read reg place) = None
step_of (ops.Swap cell reg) = None
step_of ops.Purge = None

-- what was seen on this line, with the step that was made, or as a look if none was
abbrev pub mark_at : ℕ → Seen → Option Step → Mark
mark_at line seen step = record { line = line; slot = seen.slot; found = seen.found.0; step = step }

-- a look, if the answer has one
abbrev pub look_at : ℕ → Option Seen → Option Mark
look_at line None = None
look_at line (Some seen) = Some (mark_at line seen None)

-- what an answer reports of a slot: `made` is an issue, `done` is its op's step, every other found word is a look
abbrev pub mark_of_answer : ℕ → Op → Answer → Option Mark
mark_of_answer line op (Made seen usable) = Some (mark_at line seen (Some steps.Issue))
mark_of_answer line op (Done seen) = Some (mark_at line seen (step_of op))
mark_of_answer line op (Value seen value) = look_at line (Some seen)
mark_of_answer line op (Dangling seen value) = look_at line (Some seen)
mark_of_answer line op (SecondFree seen) = look_at line seen
mark_of_answer line op (NotOwner seen) = look_at line (Some seen)
mark_of_answer line op StaleReset = None
mark_of_answer line op (StaleUse seen) = look_at line seen
mark_of_answer line op Nothing = None
mark_of_answer line op Filled = None
mark_of_answer line op NotRef = None
mark_of_answer line op (Shared seen) = look_at line (Some seen)
mark_of_answer line op OutOfRange = None
mark_of_answer line op TooLarge = None
mark_of_answer line op (Full entry) = None
mark_of_answer line op (Swapped entry) = None
mark_of_answer line op (Purged slots) = None
mark_of_answer line op Uncounted = None

-- what a record reports of a slot: a step, a look, or nothing
abbrev pub mark_of : Played → Option Mark
mark_of p = mark_of_answer p.line p.op p.answer

-- what the records report of the slots, in their order
abbrev pub marks_of : List Played → List Mark
marks_of ps = filter_map mark_of ps
