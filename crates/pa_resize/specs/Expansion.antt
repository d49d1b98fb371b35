-- What a script comes to: the lines of a trace, and a verdict for each resize.
use Rattle.std.specs.Prelude.{◌≡◌, ℕ, ◌+◌, ◌<◌, ◌≤◌, List, [], ◌∷◌, ◌++◌, map, Option, Some, None}
use Rattle.std.specs.List.{flat_map}
use Rattle.pa_slot.specs.declared.word.SlotName.{SlotName}
use Rattle.pa_slot.specs.Count.{refs_of}
use Rattle.pa_direct.specs.Shapes.{greatest_size}
use Rattle.pa_trace.specs.declared.script.Line.{Line}
use Rattle.pa_trace.specs.declared.script.Line.TheVariants.{Phase, Do}
use Rattle.pa_trace.specs.declared.script.Op.{Op}
use Rattle.pa_trace.specs.declared.script.Op.TheVariants.{Alloc, Free, Write, Read, Swap}
use Rattle.pa_trace.specs.declared.script.Trace.{Trace}
use Rattle.pa_trace.specs.Limits.{IsInput}
use Rattle.pa_record.specs.declared.entry.Seen.{Seen}
use Rattle.pa_record.specs.declared.entry.Answer.{Answer}
use Rattle.pa_record.specs.declared.entry.Answer.TheVariants.{Value, Full}
use Rattle.pa_record.specs.declared.run.Run.{Run}
use Rattle.pa_record.specs.RunText.{IsRunText}
use Rattle.pa_script.specs.declared.script.Script.{Script}
use Rattle.pa_script.specs.declared.script.ScriptLine.{ScriptLine}
use Rattle.pa_script.specs.declared.script.ScriptLine.TheVariants.{Plain, Resize}
use Rattle.pa_script.specs.Limits.{IsScriptInput, named_count}
use Rattle.pa_rules.specs.declared.played.Played.{Played}
use Rattle.pa_rules.specs.declared.register.Register.TheVariants.{Own}
use Rattle.pa_rules.specs.Legal.{IsFileRun}
use Rattle.pa_rules.specs.Registers.{Reg, AllRegs}
use Rattle.pa_rules.specs.Report.{HasSize}
use Rattle.pa_rules.specs.Roots.{Journals}
use Rattle.pa_rules.specs.Sizes.{slot_size_for}
use Rattle.pa_rules.specs.Told.{Told, told_by, records_of}
use Rattle.pa_core_run.specs.Playing.{HasCoreRun}
use Rattle.pa_model.specs.Player.{OwnsNothing, AreRegsAfter}
use Rattle.pa_resize.specs.declared.verdict.Verdict.{Verdict}
use Rattle.pa_resize.specs.declared.verdict.Verdict.TheVariants.{NotOwn, Shared, TooLarge, Kept, NoRoom, Moved}

-- ---- one resize

-- the line of a record
abbrev pub did : Played → Line
did x = Do x.thread x.op

-- the number of the register and of the cell that no script names
abbrev pub spare : ℕ
spare = named_count

-- the ops that move an object out of a register, after another slot was allocated into the spare one: the value that it had is written, it
-- is freed, and the spare cell hands the new slot over
abbrev pub moving : ℕ → ℕ → List Op
moving reg value = Write spare value ∷ Free reg ∷ Swap spare spare ∷ Swap spare reg ∷ []

-- the slot of an object, its partition and length, the word that was found there, and the value that was read
pub record Object : Type 0 where
  pub slot : SlotName
  pub partition : ℕ
  pub len : ℕ
  pub seen : Seen
  pub value : ℕ

-- The register owned the object, and the record is the read of its first word.
pub record IsLook (roots : Journals) (held : Reg) (thread reg : ℕ) (a : Object) (x : Played) : Type 0 where
  pub owned : held ≡ Own a.slot
  pub size : HasSize roots a.partition a.slot a.len
  pub line : did x ≡ Do thread (Read reg 0)
  pub answer : x.answer ≡ Value a.seen a.value

-- no raw_ptr points to the object
abbrev pub IsAlone : Object → Type 0
IsAlone a = refs_of a.seen.found.0 ≡ 0

-- there are slots for the size, of another length than the object's
abbrev pub NeedsOther : Object → ℕ → Type 0
NeedsOther a size = IsAlone a × (size ≤ greatest_size) × (slot_size_for 1 size ≡ a.len → ⊥)

-- the answer says that there was no room
abbrev pub HasNoRoom : Answer → Type 0
HasNoRoom answer = (entry : ℕ) × (answer ≡ Full entry)

-- What a resize came to, if a thread's register held this before, by its records. Each verdict denies those before it.
abbrev pub IsResized : Verdict → Journals → Reg → ℕ → ℕ → ℕ → List Played → Type 0
IsResized NotOwn roots held thread reg size xs = OwnsNothing held × (xs ≡ [])
IsResized Shared roots held thread reg size xs =
    (a : Object) × (x : Played) × IsLook roots held thread reg a x × (0 < refs_of a.seen.found.0) × (xs ≡ x ∷ [])
IsResized TooLarge roots held thread reg size xs =
    (a : Object) × (x : Played) × IsLook roots held thread reg a x × IsAlone a × (greatest_size < size) × (xs ≡ x ∷ [])
IsResized Kept roots held thread reg size xs =
    (a : Object) × (x : Played) × IsLook roots held thread reg a x × IsAlone a × (size ≤ greatest_size)
    × (slot_size_for 1 size ≡ a.len) × (xs ≡ x ∷ [])
IsResized NoRoom roots held thread reg size xs =
    (a : Object) × (x y : Played) × IsLook roots held thread reg a x × NeedsOther a size
    × (did y ≡ Do thread (Alloc spare a.partition size)) × HasNoRoom y.answer × (xs ≡ x ∷ y ∷ [])
IsResized Moved roots held thread reg size xs =
    (a : Object) × (x y : Played) × (rest : List Played) × IsLook roots held thread reg a x × NeedsOther a size
    × (did y ≡ Do thread (Alloc spare a.partition size)) × (HasNoRoom y.answer → ⊥)
    × (map did rest ≡ map (Do thread) (moving reg a.value)) × (xs ≡ x ∷ y ∷ rest)

-- ---- a whole script

-- a line of a script with the lines and the records that it came to, and its verdict if it is a resize
pub record ScriptPiece : Type 0 where
  pub line : ScriptLine
  pub lines : List Line
  pub records : List Played
  pub verdict : Option Verdict

-- the record of a line that is an op, and none of a line that begins a phase
abbrev pub IsRecordOf : Line → List Played → Type 0
IsRecordOf Phase xs = xs ≡ []
IsRecordOf (Do thread op) xs = (x : Played) × (did x ≡ Do thread op) × (xs ≡ x ∷ [])

-- In a run with these records, of which the first ones are before it, the piece is what its line comes to: a plain line is itself, and a
-- resize goes by what its register held then.
abbrev pub IsPieceOf : ScriptLine → List Played → Told → List Played → List Line → List Played → Option Verdict → Type 0
IsPieceOf (Plain l) ps r before lines records verdict = (lines ≡ l ∷ []) × IsRecordOf l records × (verdict ≡ None)
IsPieceOf (Resize thread reg size) ps r before lines records verdict =
    (v : Verdict) × (verdict ≡ Some v) × (lines ≡ map did records)
    × (regs : AllRegs) × AreRegsAfter 1 ps r before regs × IsResized v r.roots (regs thread reg) thread reg size records

-- after these records, the piece is what its line comes to
abbrev pub IsPiece : List Played → Told → List Played → ScriptPiece → Type 0
IsPiece ps r before x = IsPieceOf x.line ps r before x.lines x.records x.verdict

-- from these records on, each piece is what its line comes to, one after the other
abbrev pub ArePieces : List Played → Told → List Played → List ScriptPiece → Type 0
ArePieces ps r before [] = Unit {0}
ArePieces ps r before (x ∷ xs) = IsPiece ps r before x × ArePieces ps r (before ++ x.records) xs

-- the verdict of a line, if it has one, with the number of the line
abbrev pub verdict_noted : ℕ → Option Verdict → List (ℕ × Verdict)
verdict_noted n None = []
verdict_noted n (Some v) = (n, v) ∷ []

-- the verdicts of these pieces, in order, with the first piece on line n of the script
abbrev pub verdicts_of : ℕ → List ScriptPiece → List (ℕ × Verdict)
verdicts_of n [] = []
verdicts_of n (x ∷ xs) = verdict_noted n x.verdict ++ verdicts_of (n + 1) xs

-- The script comes to this trace, whose run in the order of its lines is this, and to these verdicts.
--   each: line by line
pub record IsExpanded (s : Script) (t : Trace) (run : Run) (vs : List (ℕ × Verdict)) : Type 0 where
  pub version : t.version ≡ 1
  pub region : t.region ≡ s.region
  pub partitions : t.partitions ≡ s.partitions
  pub threads : t.threads ≡ s.threads
  pub plain : t.plain ≡ 0
  pub file : IsFileRun t run
  pub pieces : List ScriptPiece
  pub script : map (λ (x : ScriptPiece). x.line) pieces ≡ s.lines
  pub trace : flat_map (λ (x : ScriptPiece). x.lines) pieces ≡ t.lines
  pub records : flat_map (λ (x : ScriptPiece). x.records) pieces ≡ records_of t (told_by run)
  pub each : ArePieces (records_of t (told_by run)) (told_by run) [] pieces
  pub verdicts : vs ≡ verdicts_of 2 pieces

-- these are the text of the trace to which the script comes, and that of its run in the order of its lines, which has a run of the core
pub record IsExpandedText (s : Script) (front text : List ℕ) : Type 0 where
  pub trace : Trace
  pub run : Run
  pub verdicts : List (ℕ × Verdict)
  pub expanded : IsExpanded s trace run verdicts
  pub core : HasCoreRun trace run
  pub traced : IsInput trace front
  pub printed : IsRunText run text

-- the bytes are the text of a script within the limits, and these are the texts of what it comes to
pub record IsInputExpanded (bytes front text : List ℕ) : Type 0 where
  pub script : Script
  pub input : IsScriptInput script bytes
  pub expanded : IsExpandedText script front text
