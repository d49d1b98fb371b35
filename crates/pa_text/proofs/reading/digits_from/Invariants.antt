use Rattle.std.proofs.Common.{length}
use Rattle.pa_text.proofs.Numbers.{ReadsOn}
use Rattle.pa_text.proofs.reading.digits_from.Given as goal

abbrev pub invariant-loop-digit : goal.invariant-loop-digit
invariant-loop-digit l = ReadsOn l.value l.rest l.first l.bytes

abbrev pub decreases-loop-digit : goal.decreases-loop-digit
decreases-loop-digit l = length l.rest
