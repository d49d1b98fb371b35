-- The lines of one thread in a trace.
use Rattle.std.specs.Prelude.{ℕ, Bool, false, ◌==◌, List, count_by}
use Rattle.pa_trace.specs.declared.script.Line.{Line}
use Rattle.pa_trace.specs.declared.script.Line.TheVariants.{Phase, Do}

-- the line is thread k's
abbrev pub is_by : ℕ → Line → Bool
is_by k Phase = false
is_by k (Do thread op) = thread == k

-- how many of the lines are thread k's
abbrev pub lines_by : ℕ → List Line → ℕ
lines_by k ls = count_by (is_by k) ls
