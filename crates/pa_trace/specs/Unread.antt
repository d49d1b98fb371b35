-- How far a trace's text has been read, and what the next step returns.
use Rattle.std.specs.Prelude.{◌≡◌, ℕ, ◌+◌, ◌-◌, ◌<◌, ◌≤◌, List, [], ◌∷◌, ◌++◌, length}
use Rattle.std.specs.List.{AllByRecursion}
use Rattle.pa_trace.specs.declared.fault.TraceFault.{TraceFault}
use Rattle.pa_trace.specs.declared.line.Head.{Head}
use Rattle.pa_trace.specs.declared.script.Line.{Line}
use Rattle.pa_trace.specs.declared.script.Trace.{Trace}
use Rattle.pa_trace.specs.Grammar.{IsVersionTo, AreLinesText, IsTraceText, last_version}
use Rattle.pa_trace.specs.Limits.{IsHeadWithin, IsLineWithin, IsInput, most_lines, most_bytes}
use Rattle.pa_trace.specs.Faults.{lines_of, IsFirstBehind, IsFirstFault, IsFault}

-- The head, which is read; the bytes that aren't read yet, how many may still come, and the number of the next line.
pub record Unread : Type 0 where
  pub head : Head
  pub rest : List ℕ
  pub left : ℕ
  pub number : ℕ

-- the trace of this head and these lines
abbrev pub trace_with : Head → List Line → Trace
trace_with head ls =
    record {
      version = head.version;
      region = head.region;
      partitions = head.partitions;
      threads = head.threads;
      plain = head.plain;
      lines = ls;
    }

-- Of these bytes the head and these lines are read, all within the limits, and this is unread. The head is of a version up to the last one
-- that is known. Whichever lines the rest is the text of, the bytes are the text of the trace with those lines appended. The first faulty
-- line of the rest is the first of all.
pub record IsReadUpTo (known : ℕ) (bytes : List ℕ) (ls : List Line) (u : Unread) : Type 0 where
  pub version : IsVersionTo last_version u.head.version
  pub is_known : u.head.version ≤ known
  pub head : IsHeadWithin u.head
  pub lines : AllByRecursion (IsLineWithin u.head.partitions u.head.threads) ls
  pub few : length ls < most_lines
  pub number : u.number ≡ length ls + 2
  pub room : u.left ≤ most_bytes
  pub taken : length u.rest + most_bytes ≡ length bytes + u.left
  pub text : (more : List Line) → AreLinesText more u.rest → IsTraceText (trace_with u.head (ls ++ more)) bytes
  pub fault : (e : TraceFault) → IsFirstBehind u.head.partitions u.head.threads u.number (most_bytes - u.left) (lines_of u.rest) e
      → IsFirstFault known e bytes

-- this line was read: it is the next one, and less is unread
pub record IsLineRead (u : Unread) (l : Line) (v : Unread) : Type 0 where
  pub head : v.head ≡ u.head
  pub shorter : length v.rest < length u.rest
  pub read : (known : ℕ) (bytes : List ℕ) (ls : List Line) → IsReadUpTo known bytes ls u → IsReadUpTo known bytes (ls ++ l ∷ []) v

-- the end was read, and the reader stays there: the bytes are the text of the trace of the lines so far, which is within the limits
pub record IsEndRead (u v : Unread) : Type 0 where
  pub stays : v ≡ u
  pub read : (known : ℕ) (bytes : List ℕ) (ls : List Line) → IsReadUpTo known bytes ls u → IsInput (trace_with u.head ls) bytes

-- a fault was read, which is the fault of the bytes
abbrev pub IsFaultRead : Unread → TraceFault → Type 0
IsFaultRead u e = (known : ℕ) (bytes : List ℕ) (ls : List Line) → IsReadUpTo known bytes ls u → IsFault known e bytes
