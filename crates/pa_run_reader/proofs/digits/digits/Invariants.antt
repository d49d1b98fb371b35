use Rattle.std.proofs.Common.{◌≡◌, length}
use Rattle.pa_text.specs.Reading.{digits_from}
use Rattle.pa_run_reader.proofs.digits.digits.Given as goal

abbrev pub invariant-loop-digit : goal.invariant-loop-digit
invariant-loop-digit l = digits_from l.value l.rest ≡ digits_from l.first l.bytes

abbrev pub decreases-loop-digit : goal.decreases-loop-digit
decreases-loop-digit l = length l.rest
