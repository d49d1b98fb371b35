-- What a move leaves of registers, cells and contents, in a run in the order of its lines.
use Rattle.std.specs.Prelude.{◌≡◌, ℕ, ◌<◌, ◌≤◌, List, ◌++◌, Contains}
use Rattle.std.specs.List.{flat_map}
use Rattle.pa_slot.specs.declared.word.SlotName.{SlotName}
use Rattle.pa_slot.specs.Count.{number_of, refs_of}
use Rattle.pa_trace.specs.declared.script.Op.TheVariants.{Free}
use Rattle.pa_trace.specs.declared.script.Trace.{Trace}
use Rattle.pa_trace.specs.Limits.{IsWithinLimits}
use Rattle.pa_record.specs.declared.entry.Seen.{Seen}
use Rattle.pa_record.specs.declared.entry.Answer.TheVariants.{Done}
use Rattle.pa_record.specs.declared.history.Held.{Held}
use Rattle.pa_record.specs.declared.run.Run.{Run}
use Rattle.pa_script.specs.declared.script.Script.{Script}
use Rattle.pa_script.specs.Limits.{IsScriptWithin}
use Rattle.pa_record.specs.declared.history.Held.TheVariants.{Nothing}
use Rattle.pa_rules.specs.declared.played.Played.{Played}
use Rattle.pa_rules.specs.declared.register.Register.TheVariants.{Empty, Own}
use Rattle.pa_rules.specs.Contents.{IsContent}
use Rattle.pa_rules.specs.Legal.{IsFileTold}
use Rattle.pa_rules.specs.Registers.{AllRegs, RowsTo, facts_with}
use Rattle.pa_rules.specs.Sizes.{usable_of}
use Rattle.pa_rules.specs.Told.{Told, told_by, records_of}
use Rattle.pa_one_run.specs.Parts.{cell_line}
use Rattle.pa_one_run.specs.Before.{word_after, below, gave_last}
use Rattle.pa_model.specs.Player.{AreRegsAfter}
use Rattle.pa_resize.specs.declared.verdict.Verdict.{Verdict}
use Rattle.pa_resize.specs.declared.verdict.Verdict.TheVariants.{Moved}
use Rattle.pa_resize.specs.Expansion.{spare, IsResized, ScriptPiece, IsExpanded}

-- over these records the rows of the whole run lead from the first registers to the second ones
abbrev pub LeadsOver : List Played → Told → AllRegs → List Played → AllRegs → Type 0
LeadsOver ps r regs xs after = RowsTo (facts_with (usable_of 1) ps r.cells) regs xs after

-- line n is between these records: the first ones are on lines before it, and none of the rest is
pub record StandsBetween (n : ℕ) (before rest : List Played) : Type 0 where
  pub early : (x : Played) → Contains before x → x.line < n
  pub late : (x : Played) → Contains rest x → n ≤ x.line

-- what cell k holds before line n: what the last exchange on an earlier line gave
abbrev pub cell_before : Told → ℕ → ℕ → Held
cell_before r n k = gave_last Nothing (below cell_line n (r.cells k))

-- the spare register of each thread, and the spare cell, have nothing between these records
pub record IsSpareFree (r : Told) (before rest : List Played) (regs : AllRegs) : Type 0 where
  pub register : (t : ℕ) → regs t spare ≡ Empty
  pub cell : (n : ℕ) → StandsBetween n before rest → cell_before r n spare ≡ Nothing

-- What a move leaves.
--   owner, others: the register owns another slot, and every other register of every thread is as before
--   cells: each cell holds what it held
--   content, looked: the new slot contains what the old one contained when it was looked at
--   freed: the old slot was freed when no raw_ptr pointed to it, so it was returned
pub record IsMoveKept (ps : List Played) (r : Told) (thread reg : ℕ) (before xs rest : List Played) (regs after : AllRegs) : Type 0 where
  pub new : SlotName
  pub old : SlotName
  pub value : ℕ
  pub owned : regs thread reg ≡ Own old
  pub owner : after thread reg ≡ Own new
  pub others : (t k : ℕ) → ((t ≡ thread) × (k ≡ reg) → ⊥) → after t k ≡ regs t k
  pub cells : (n m k : ℕ) → StandsBetween n before (xs ++ rest) → StandsBetween m (before ++ xs) rest
      → cell_before r m k ≡ cell_before r n k
  pub content : IsContent ps new (number_of (word_after (before ++ xs) new)) value
  pub looked : IsContent ps old (number_of (word_after before old)) value
  pub freed : (x : Played) × (seen : Seen) × Contains xs x × (x.op ≡ Free reg) × (x.answer ≡ Done seen) × (seen.slot ≡ old)
      × (refs_of seen.found.0 ≡ 0)

-- The records of a move, of a register that scripts may name, leave all that a move keeps if the spare register and cell were free.
abbrev pub MovesKeep : Type 0
MovesKeep =
    (t : Trace) (r : Told) (before xs rest : List Played) (regs after : AllRegs) (thread reg size : ℕ) →
    IsWithinLimits t → IsFileTold t r → records_of t r ≡ before ++ (xs ++ rest) → reg < spare →
    IsResized Moved r.roots (regs thread reg) thread reg size xs → LeadsOver (records_of t r) r regs xs after →
    IsSpareFree r before (xs ++ rest) regs → IsMoveKept (records_of t r) r thread reg before xs rest regs after

-- Wherever the pieces of a script are cut, the spare register of each thread and the spare cell have nothing there.
abbrev pub SpareStaysFree : Type 0
SpareStaysFree =
    (s : Script) (t : Trace) (run : Run) (verdicts : List (ℕ × Verdict)) (first more : List ScriptPiece) (regs : AllRegs) →
    IsScriptWithin s → IsWithinLimits t → (e : IsExpanded s t run verdicts) → e.pieces ≡ first ++ more →
    AreRegsAfter 1 (records_of t (told_by run)) (told_by run) (flat_map (λ (x : ScriptPiece). x.records) first) regs →
    IsSpareFree (told_by run) (flat_map (λ (x : ScriptPiece). x.records) first) (flat_map (λ (x : ScriptPiece). x.records) more) regs

-- Every register of every thread, each cell, and each slot's word are as before: no step was made.
pub record IsAsBefore (r : Told) (before xs rest : List Played) (regs after : AllRegs) : Type 0 where
  pub registers : (t k : ℕ) → after t k ≡ regs t k
  pub cells : (n m k : ℕ) → StandsBetween n before (xs ++ rest) → StandsBetween m (before ++ xs) rest
      → cell_before r m k ≡ cell_before r n k
  pub words : (s : SlotName) → word_after (before ++ xs) s ≡ word_after before s

-- the records of a resize with any verdict but a move's leave all as before
abbrev pub OthersStay : Type 0
OthersStay =
    (t : Trace) (r : Told) (before xs rest : List Played) (regs after : AllRegs) (thread reg size : ℕ) (v : Verdict) →
    IsWithinLimits t → IsFileTold t r → records_of t r ≡ before ++ (xs ++ rest) → (v ≡ Moved → ⊥) →
    IsResized v r.roots (regs thread reg) thread reg size xs → LeadsOver (records_of t r) r regs xs after →
    IsAsBefore r before xs rest regs after
