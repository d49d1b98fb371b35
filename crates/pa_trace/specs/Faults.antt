-- Which line of a text is the first faulty one, and by which fault. Lines and bytes count from 1, and a line contains its LF. A head of a
-- version past the last one that is known is outside the grammar.
use Rattle.std.specs.Prelude.{◌≡◌, ℕ, ◌+◌, ◌<◌, ◌==◌, ◌⊎◌, if◌then◌else◌, List, [], ◌∷◌, ◌++◌, length}
use Rattle.pa_trace.specs.declared.fault.TraceFault.{TraceFault}
use Rattle.pa_trace.specs.declared.fault.TraceFault.TheVariants.{BadLine, Limit, OutOfMemory}
use Rattle.pa_trace.specs.declared.line.Head.{Head}
use Rattle.pa_trace.specs.declared.script.Line.{Line}
use Rattle.pa_trace.specs.Grammar.{IsVersionTo, IsHeadText, IsLineText}
use Rattle.pa_trace.specs.Limits.{IsHeadWithin, IsLineWithin, most_lines, most_bytes}

-- a byte before lines: an LF is a line of its own, any other byte begins the first line
abbrev pub with_front : ℕ → List (List ℕ) → List (List ℕ)
with_front b [] = (b ∷ []) ∷ []
with_front b (line ∷ lines) = if b == 10 then (b ∷ []) ∷ line ∷ lines else (b ∷ line) ∷ lines

-- the lines of a text, each with its LF, which only the last may lack
unfoldable pub lines_of : List ℕ → List (List ℕ)
lines_of [] = []
lines_of (b ∷ bytes) = with_front b (lines_of bytes)

-- line n, after that many bytes, is line 65,537 or contains byte 4,194,305, or comes after such a line
abbrev pub IsPast : ℕ → ℕ → List ℕ → Type 0
IsPast n before line = (most_lines < n) ⊎ (most_bytes < before + length line)

-- the line is the text of a head and an LF, and the head is of a version up to the last one that is known
abbrev pub IsHeadLine : ℕ → Head → List ℕ → Type 0
IsHeadLine known h line = (text : List ℕ) × IsHeadText h text × (line ≡ text ++ 10 ∷ []) × IsVersionTo known h.version

-- the line is the text of a line after the head, and an LF
abbrev pub IsBodyLine : Line → List ℕ → Type 0
IsBodyLine l line = (text : List ℕ) × IsLineText l text × (line ≡ text ++ 10 ∷ [])

-- as a head, the line is outside the grammar or has no LF
abbrev pub IsBadHead : ℕ → List ℕ → Type 0
IsBadHead known line = (h : Head) → IsHeadLine known h line → ⊥

-- as a line after a head, the line is outside the grammar or has no LF
abbrev pub IsBadLine : List ℕ → Type 0
IsBadLine line = (l : Line) → IsBodyLine l line → ⊥

-- as a head, the line is in the grammar and a number passes its limit
abbrev pub IsHeadOverLimit : ℕ → List ℕ → Type 0
IsHeadOverLimit known line = (h : Head) × IsHeadLine known h line × (IsHeadWithin h → ⊥)

-- as a line after a head, the line is in the grammar and a number passes its limit
abbrev pub IsLineOverLimit : ℕ → ℕ → List ℕ → Type 0
IsLineOverLimit partitions threads line = (l : Line) × IsBodyLine l line × (IsLineWithin partitions threads l → ⊥)

-- the fault of line n: past first, then bad, then over a limit
abbrev pub IsFaultOf : ℕ → Type 0 → Type 0 → Type 0 → TraceFault → Type 0
IsFaultOf n past bad over (BadLine m) = (m ≡ n) × (past → ⊥) × bad
IsFaultOf n past bad over (Limit m) = (m ≡ n) × (past ⊎ over)
IsFaultOf n past bad over OutOfMemory = ⊥

-- The first fault of the lines after a head, of which the first is line n and comes after this many bytes. That line is faulty
-- itself, or it is in the grammar and the limits and a later one is the first faulty one.
abbrev pub IsFirstBehind : ℕ → ℕ → ℕ → ℕ → List (List ℕ) → TraceFault → Type 0
IsFirstBehind partitions threads n before [] e = ⊥
IsFirstBehind partitions threads n before (line ∷ lines) e =
    IsFaultOf n (IsPast n before line) (IsBadLine line) (IsLineOverLimit partitions threads line) e
    ⊎ ((l : Line) × IsBodyLine l line × IsLineWithin partitions threads l × (IsPast n before line → ⊥)
    × IsFirstBehind partitions threads (n + 1) (before + length line) lines e)

-- the fault of the first faulty one of all lines, which is at line 1 if there is no line at all
abbrev pub IsFirstOf : ℕ → List (List ℕ) → TraceFault → Type 0
IsFirstOf known [] e = e ≡ BadLine 1
IsFirstOf known (line ∷ lines) e =
    IsFaultOf 1 (IsPast 1 0 line) (IsBadHead known line) (IsHeadOverLimit known line) e
    ⊎ ((h : Head) × IsHeadLine known h line × IsHeadWithin h × (IsPast 1 0 line → ⊥)
    × IsFirstBehind h.partitions h.threads 2 (length line) lines e)

-- the first faulty line of a text, and its fault
abbrev pub IsFirstFault : ℕ → TraceFault → List ℕ → Type 0
IsFirstFault known e bytes = IsFirstOf known (lines_of bytes) e

-- why the bytes were not read
abbrev pub IsFault : ℕ → TraceFault → List ℕ → Type 0
IsFault known (BadLine n) bytes = IsFirstFault known (BadLine n) bytes
IsFault known (Limit n) bytes = IsFirstFault known (Limit n) bytes
IsFault known OutOfMemory bytes = Unit {0}
