-- Which line of a script's text is the first faulty one, and by which fault. Lines and bytes count from 1, and a line contains its LF.
use Rattle.std.specs.Prelude.{◌≡◌, ℕ, ◌+◌, ◌<◌, ◌⊎◌, List, [], ◌∷◌, ◌++◌, length}
use Rattle.pa_trace.specs.declared.fault.TraceFault.{TraceFault}
use Rattle.pa_trace.specs.declared.fault.TraceFault.TheVariants.{BadLine, Limit, OutOfMemory}
use Rattle.pa_trace.specs.Faults.{lines_of, IsFaultOf}
use Rattle.pa_trace.specs.Rules.{first_head}
use Rattle.pa_trace.specs.Limits.{IsHeadWithin, most_bytes}
use Rattle.pa_script.specs.declared.script.ScriptLine.{ScriptLine}
use Rattle.pa_script.specs.Grammar.{IsScriptHeadText, IsScriptLineText}
use Rattle.pa_script.specs.Limits.{IsScriptLineWithin, most_script_lines}

-- line n, after this many bytes, is line 10,001 or contains byte 4,194,305, or is after such a line
abbrev pub IsPastScript : ℕ → ℕ → List ℕ → Type 0
IsPastScript n before line = (most_script_lines < n) ⊎ (most_bytes < before + length line)

-- the line is the text of a script's head, and an LF
abbrev pub IsScriptHeadLine : ℕ → ℕ → ℕ → List ℕ → Type 0
IsScriptHeadLine region partitions threads line =
    (text : List ℕ) × IsScriptHeadText region partitions threads text × (line ≡ text ++ 10 ∷ [])

-- the line is the text of a line after the head, and an LF
abbrev pub IsScriptBodyLine : ScriptLine → List ℕ → Type 0
IsScriptBodyLine l line = (text : List ℕ) × IsScriptLineText l text × (line ≡ text ++ 10 ∷ [])

-- as a head, the line is outside the grammar or has no LF
abbrev pub IsBadScriptHead : List ℕ → Type 0
IsBadScriptHead line = (region partitions threads : ℕ) → IsScriptHeadLine region partitions threads line → ⊥

-- as a line after a head, the line is outside the grammar or has no LF
abbrev pub IsBadScriptLine : List ℕ → Type 0
IsBadScriptLine line = (l : ScriptLine) → IsScriptBodyLine l line → ⊥

-- as a head, the line is in the grammar and a number passes its limit
abbrev pub IsScriptHeadOverLimit : List ℕ → Type 0
IsScriptHeadOverLimit line =
    (region partitions threads : ℕ) × IsScriptHeadLine region partitions threads line
    × (IsHeadWithin (first_head region partitions threads) → ⊥)

-- as a line after a head, the line is in the grammar and a number passes its limit
abbrev pub IsScriptLineOverLimit : ℕ → ℕ → List ℕ → Type 0
IsScriptLineOverLimit partitions threads line =
    (l : ScriptLine) × IsScriptBodyLine l line × (IsScriptLineWithin partitions threads l → ⊥)

-- The first fault of the lines after a head, of which the first is line n and comes after this many bytes. That line is faulty
-- itself, or it is in the grammar and the limits and a later one is the first faulty one.
abbrev pub IsFirstScriptBehind : ℕ → ℕ → ℕ → ℕ → List (List ℕ) → TraceFault → Type 0
IsFirstScriptBehind partitions threads n before [] e = ⊥
IsFirstScriptBehind partitions threads n before (line ∷ lines) e =
    IsFaultOf n (IsPastScript n before line) (IsBadScriptLine line) (IsScriptLineOverLimit partitions threads line) e
    ⊎ ((l : ScriptLine) × IsScriptBodyLine l line × IsScriptLineWithin partitions threads l × (IsPastScript n before line → ⊥)
    × IsFirstScriptBehind partitions threads (n + 1) (before + length line) lines e)

-- the fault of the first faulty one of all lines, which is at line 1 if there is no line at all
abbrev pub IsFirstScriptOf : List (List ℕ) → TraceFault → Type 0
IsFirstScriptOf [] e = e ≡ BadLine 1
IsFirstScriptOf (line ∷ lines) e =
    IsFaultOf 1 (IsPastScript 1 0 line) (IsBadScriptHead line) (IsScriptHeadOverLimit line) e
    ⊎ ((region partitions threads : ℕ) × IsScriptHeadLine region partitions threads line
    × IsHeadWithin (first_head region partitions threads) × (IsPastScript 1 0 line → ⊥)
    × IsFirstScriptBehind partitions threads 2 (length line) lines e)

-- the first faulty line of a text, and its fault
abbrev pub IsFirstScriptFault : TraceFault → List ℕ → Type 0
IsFirstScriptFault e bytes = IsFirstScriptOf (lines_of bytes) e

-- why the bytes were not read
abbrev pub IsScriptFault : TraceFault → List ℕ → Type 0
IsScriptFault (BadLine n) bytes = IsFirstScriptFault (BadLine n) bytes
IsScriptFault (Limit n) bytes = IsFirstScriptFault (Limit n) bytes
IsScriptFault OutOfMemory bytes = Unit {0}
