-- The text of a trace followed by that of a run: where the one ends and the other begins, and which line of both is the first
-- faulty one. Lines and bytes count from 1 in the whole input, and a line contains its LF.
use Rattle.std.specs.Prelude.{◌≡◌, ℕ, ◌+◌, ◌<◌, ◌≤◌, ◌⊎◌, List, [], ◌∷◌, ◌++◌, Option, Some, None, codes, length}
use Rattle.std.specs.List.{AllByRecursion}
use Rattle.pa_trace.specs.Grammar.{last_version}
use Rattle.pa_trace.specs.declared.script.Trace.{Trace}
use Rattle.pa_trace.specs.declared.fault.TraceFault.{TraceFault}
use Rattle.pa_trace.specs.declared.fault.TraceFault.TheVariants.{BadLine, Limit}
use Rattle.pa_trace.specs.Limits.{IsInput}
use Rattle.pa_trace.specs.Faults.{lines_of, IsFirstFault}
use Rattle.pa_record.specs.declared.run.Run.{Run}
use Rattle.pa_record.specs.RunText.{IsRunText}
use Rattle.pa_run_reader.specs.declared.item.Item.{Item}
use Rattle.pa_run_reader.specs.declared.item.Item.TheVariants as items
use Rattle.pa_run_reader.specs.Item.{FitsItem, item_text}
use Rattle.pa_run_reader.specs.Order.{Follows}

-- the most bytes of a trace and a run
abbrev pub most_audited : ℕ
most_audited = 134217728

-- the first line of a run's text
abbrev pub run_line : List ℕ
run_line = codes "run 1\n"

-- there are no lines, or the first is `run 1`
abbrev pub BeginsRun : List (List ℕ) → Type 0
BeginsRun [] = Unit {0}
BeginsRun (line ∷ lines) = line ≡ run_line

-- the bytes are cut before the first line that is `run 1`, or, if there is no such line, after the last one
pub record IsParted (front back bytes : List ℕ) : Type 0 where
  pub parts : bytes ≡ front ++ back
  pub lines : lines_of bytes ≡ lines_of front ++ lines_of back
  pub before : AllByRecursion (λ line. line ≡ run_line → ⊥) (lines_of front)
  pub behind : BeginsRun (lines_of back)

-- the bytes, at most 134,217,728 of them, are the text of this trace, which is within its limits, and after it,
-- after that many lines, that of this run
pub record IsAudited (t : Trace) (r : Run) (lines : ℕ) (bytes : List ℕ) : Type 0 where
  pub front : List ℕ
  pub back : List ℕ
  pub parted : IsParted front back bytes
  pub trace : IsInput t front
  pub run : IsRunText r back
  pub count : lines ≡ length (lines_of front)
  pub short : length bytes ≤ most_audited

-- the line, after that many bytes, ends before byte 134,217,729
abbrev pub EndsEarly : ℕ → List ℕ → Type 0
EndsEarly before line = before + length line ≤ most_audited

-- The first faulty one of these lines of a run's text: the first of them is line n, after that many bytes and after the last item.
-- A line is faulty by Limit if it contains byte 134,217,729; else it is bad if it isn't the text of an item that may follow.
-- After good lines the next one is bad if the end is missing.
abbrev pub IsFirstOfRun : ℕ → ℕ → Option Item → List (List ℕ) → TraceFault → Type 0
IsFirstOfRun n before last [] e = (e ≡ BadLine n) × (last ≡ Some items.End → ⊥)
IsFirstOfRun n before last (line ∷ lines) e =
    ((most_audited < before + length line) × (e ≡ Limit n))
    ⊎ ((EndsEarly before line × (e ≡ BadLine n) × ((i : Item) → FitsItem i → Follows last i → line ≡ item_text i → ⊥))
    ⊎ (EndsEarly before line × (i : Item) × FitsItem i × Follows last i × (line ≡ item_text i)
    × IsFirstOfRun (n + 1) (before + length line) (Some i) lines e))

-- the first faulty line of these parts, and its fault: that of the trace's part, or, if this is a trace, that of the run's part
abbrev pub IsFirstOfParts : TraceFault → List ℕ → List ℕ → Type 0
IsFirstOfParts e front back =
    IsFirstFault last_version e front
    ⊎ ((t : Trace) × IsInput t front × IsFirstOfRun (length (lines_of front) + 1) (length front) None (lines_of back) e)

-- the first faulty line of the bytes, and its fault; if all lines are those of a trace, the one after them is bad
pub record IsFirstAuditFault (e : TraceFault) (bytes : List ℕ) : Type 0 where
  pub front : List ℕ
  pub back : List ℕ
  pub parted : IsParted front back bytes
  pub fault : IsFirstOfParts e front back
