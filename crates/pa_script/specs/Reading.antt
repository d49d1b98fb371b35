-- Reading a line of a script from left to right.
use Rattle.std.specs.Prelude.{ℕ, ◌&&◌, Bool, true, nat_lt, if◌then◌else◌, List, [], codes, Some, Result, Ok, Err}
use Rattle.pa_trace.specs.declared.field.LineFault.{LineFault}
use Rattle.pa_trace.specs.declared.field.LineFault.TheVariants.{Outside, Past}
use Rattle.pa_trace.specs.declared.line.Head.{Head}
use Rattle.pa_trace.specs.declared.script.Line.{Line}
use Rattle.pa_trace.specs.declared.script.Line.TheVariants.{Phase, Do}
use Rattle.pa_trace.specs.declared.script.Op.{Op}
use Rattle.pa_trace.specs.declared.script.Op.TheVariants.{Alloc, Copy, Reset, Free, Write, Read, Swap, Purge}
use Rattle.pa_trace.specs.Reading.{◌>>=◌, three_in, below, within, head_of, line_in}
use Rattle.pa_script.specs.declared.script.ScriptLine.{ScriptLine}
use Rattle.pa_script.specs.declared.script.ScriptLine.TheVariants.{Plain, Resize}
use Rattle.pa_script.specs.Limits.{named_count}

-- the head, without its LF
unfoldable pub script_head_in : List ℕ → Result Head LineFault
script_head_in bytes = do
  numbers ← three_in bytes (codes "script 1 region ") (codes " partitions ") (codes " threads ")
  head_of 1 numbers.0 numbers.1 numbers.2 (Some 0)

-- the thread, ` S r` and the register, a space and the size
unfoldable pub resize_in : ℕ → List ℕ → Result ScriptLine LineFault
resize_in threads bytes = do
  numbers ← three_in bytes [] (codes " S r") (codes " ")
  thread ← below numbers.0 threads
  reg ← below numbers.1 named_count
  size ← within numbers.2
  Ok (Resize thread reg size)

-- the test that an op names only registers and cells of a script
abbrev pub names_few_in : Op → Bool
names_few_in (Alloc reg partition size) = nat_lt reg named_count
names_few_in (Copy from to) = nat_lt from named_count && nat_lt to named_count
names_few_in (Reset reg) = nat_lt reg named_count
names_few_in (Free reg) = nat_lt reg named_count
names_few_in (Write reg value) = nat_lt reg named_count
names_few_in (Read reg place) = nat_lt reg named_count
names_few_in (Swap cell reg) = nat_lt cell named_count && nat_lt reg named_count
names_few_in Purge = true

-- the test that a line names only registers and cells of a script
abbrev pub names_few : Line → Bool
names_few Phase = true
names_few (Do thread op) = names_few_in op

-- a line of a trace as a line of a script: past the limits, if it names a register or a cell that a script may not
abbrev pub plain_of : Line → Result ScriptLine LineFault
plain_of l = if names_few l then Ok (Plain l) else Err Past

-- a line of a trace, whose numbers are tried against a trace's limits and then against a script's
unfoldable pub plain_in : ℕ → ℕ → List ℕ → Result ScriptLine LineFault
plain_in partitions threads bytes = do
  l ← line_in partitions threads bytes
  plain_of l

-- what is outside the one grammar is tried in the other
abbrev pub or_plain : Result ScriptLine LineFault → Result ScriptLine LineFault → Result ScriptLine LineFault
or_plain (Ok l) other = Ok l
or_plain (Err Outside) other = other
or_plain (Err Past) other = Err Past

-- a line after the head, without its LF
abbrev pub script_line_in : ℕ → ℕ → List ℕ → Result ScriptLine LineFault
script_line_in partitions threads bytes = or_plain (resize_in threads bytes) (plain_in partitions threads bytes)
