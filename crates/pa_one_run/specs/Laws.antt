-- What is proved of the run in the order of the lines.
use Rattle.std.specs.Prelude.{◌≡◌}
use Rattle.pa_trace.specs.declared.script.Trace.{Trace}
use Rattle.pa_trace.specs.Limits.{IsWithinLimits}
use Rattle.pa_record.specs.declared.run.Run.{Run}
use Rattle.pa_record.specs.RunText.{IsSameRun}
use Rattle.pa_rules.specs.Legal.{IsLegal, IsFileRun}

-- a trace within the limits has at most one run in the order of its lines
abbrev pub AtMostOneFileRun : Type 0
AtMostOneFileRun = (t : Trace) (a b : Run) → IsWithinLimits t → IsFileRun t a → IsFileRun t b → IsSameRun a b

-- a legal run of a trace of one thread is the run in the order of its lines
abbrev pub OneThreadInFileOrder : Type 0
OneThreadInFileOrder = (t : Trace) (r : Run) → IsWithinLimits t → t.threads ≡ 1 → IsLegal t r → IsFileRun t r
