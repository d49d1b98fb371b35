-- The limits of a script: those of a trace of version 1, with fewer lines, registers and cells.
use Rattle.std.specs.Prelude.{ℕ, ◌<◌, ◌≤◌, List, length}
use Rattle.std.specs.List.{AllByRecursion}
use Rattle.pa_trace.specs.declared.script.Line.{Line}
use Rattle.pa_trace.specs.declared.script.Line.TheVariants.{Phase, Do}
use Rattle.pa_trace.specs.declared.script.Op.{Op}
use Rattle.pa_trace.specs.declared.script.Op.TheVariants.{Alloc, Copy, Reset, Free, Write, Read, Swap, Purge}
use Rattle.pa_trace.specs.Rules.{first_head}
use Rattle.pa_trace.specs.Limits.{IsHeadWithin, IsLineWithin, most_bytes}
use Rattle.pa_script.specs.declared.script.Script.{Script}
use Rattle.pa_script.specs.declared.script.ScriptLine.{ScriptLine}
use Rattle.pa_script.specs.declared.script.ScriptLine.TheVariants.{Plain, Resize}
use Rattle.pa_script.specs.Grammar.{IsScriptText}

-- a script names registers and cells 0 to 62: the last of each is free for what a resize comes to
abbrev pub named_count : ℕ
named_count = 63

-- the most lines of a script, the head included
abbrev pub most_script_lines : ℕ
most_script_lines = 10000

-- an op names only registers and cells 0 to 62
abbrev pub NamesFewIn : Op → Type 0
NamesFewIn (Alloc reg partition size) = reg < named_count
NamesFewIn (Copy from to) = (from < named_count) × (to < named_count)
NamesFewIn (Reset reg) = reg < named_count
NamesFewIn (Free reg) = reg < named_count
NamesFewIn (Write reg value) = reg < named_count
NamesFewIn (Read reg place) = reg < named_count
NamesFewIn (Swap cell reg) = (cell < named_count) × (reg < named_count)
NamesFewIn Purge = Unit {0}

-- a line of a trace names only registers and cells 0 to 62
abbrev pub NamesFew : Line → Type 0
NamesFew Phase = Unit {0}
NamesFew (Do thread op) = NamesFewIn op

-- a line of a script with this many partitions and threads
abbrev pub IsScriptLineWithin : ℕ → ℕ → ScriptLine → Type 0
IsScriptLineWithin partitions threads (Plain l) = IsLineWithin partitions threads l × NamesFew l
IsScriptLineWithin partitions threads (Resize thread reg size) = (thread < threads) × (reg < named_count) × (size ≤ 4294967295)

-- a script within the limits: at most 10,000 lines, the head included
pub record IsScriptWithin (s : Script) : Type 0 where
  pub head : IsHeadWithin (first_head s.region s.partitions s.threads)
  pub lines : AllByRecursion (IsScriptLineWithin s.partitions s.threads) s.lines
  pub few : length s.lines < most_script_lines

-- the bytes are the text of this script, which is within the limits, and at most 4,194,304 of them
pub record IsScriptInput (s : Script) (bytes : List ℕ) : Type 0 where
  pub limits : IsScriptWithin s
  pub text : IsScriptText s bytes
  pub short : length bytes ≤ most_bytes
