-- How far a script's text has been read, and what the next step comes to.
use Rattle.std.specs.Prelude.{◌≡◌, ℕ, ◌+◌, ◌-◌, ◌<◌, ◌≤◌, List, [], ◌∷◌, ◌++◌, length}
use Rattle.std.specs.List.{AllByRecursion}
use Rattle.pa_trace.specs.declared.fault.TraceFault.{TraceFault}
use Rattle.pa_trace.specs.declared.line.Head.{Head}
use Rattle.pa_trace.specs.Limits.{IsHeadWithin, most_bytes}
use Rattle.pa_trace.specs.Faults.{lines_of}
use Rattle.pa_trace.specs.Unread.{Unread}
use Rattle.pa_script.specs.declared.script.Script.{Script}
use Rattle.pa_script.specs.declared.script.ScriptLine.{ScriptLine}
use Rattle.pa_script.specs.Grammar.{AreScriptLinesText, IsScriptText}
use Rattle.pa_script.specs.Limits.{IsScriptLineWithin, IsScriptInput, most_script_lines}
use Rattle.pa_script.specs.Faults.{IsFirstScriptBehind, IsFirstScriptFault, IsScriptFault}

-- the script of this head and these lines
abbrev pub script_with : Head → List ScriptLine → Script
script_with head ls = record { region = head.region; partitions = head.partitions; threads = head.threads; lines = ls }

-- Of these bytes the head, which is of version 1, and these lines are read, all within the limits, and this is unread.
pub record IsScriptReadUpTo (bytes : List ℕ) (ls : List ScriptLine) (u : Unread) : Type 0 where
  pub version : u.head.version ≡ 1
  pub head : IsHeadWithin u.head
  pub lines : AllByRecursion (IsScriptLineWithin u.head.partitions u.head.threads) ls
  pub few : length ls < most_script_lines
  pub number : u.number ≡ length ls + 2
  pub room : u.left ≤ most_bytes
  pub taken : length u.rest + most_bytes ≡ length bytes + u.left
  pub text : (more : List ScriptLine) → AreScriptLinesText more u.rest → IsScriptText (script_with u.head (ls ++ more)) bytes
  pub fault : (e : TraceFault)
      → IsFirstScriptBehind u.head.partitions u.head.threads u.number (most_bytes - u.left) (lines_of u.rest) e
      → IsFirstScriptFault e bytes

-- this line was read: it is the next one, and less is unread
pub record IsScriptLineRead (u : Unread) (l : ScriptLine) (v : Unread) : Type 0 where
  pub head : v.head ≡ u.head
  pub shorter : length v.rest < length u.rest
  pub read : (bytes : List ℕ) (ls : List ScriptLine) → IsScriptReadUpTo bytes ls u → IsScriptReadUpTo bytes (ls ++ l ∷ []) v

-- the end was read, and the reader stays there: the bytes are the text of the script of the lines so far, which is within the limits
pub record IsScriptEndRead (u v : Unread) : Type 0 where
  pub stays : v ≡ u
  pub read : (bytes : List ℕ) (ls : List ScriptLine) → IsScriptReadUpTo bytes ls u → IsScriptInput (script_with u.head ls) bytes

-- a fault was read, which is the fault of the bytes
abbrev pub IsScriptFaultRead : Unread → TraceFault → Type 0
IsScriptFaultRead u e = (bytes : List ℕ) (ls : List ScriptLine) → IsScriptReadUpTo bytes ls u → IsScriptFault e bytes
