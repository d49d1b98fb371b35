use Rattle.pa_test_resize.proofs.Driving.{IsDrivenTo}
use Rattle.pa_test_resize.proofs.lines.driven.Given as goal

-- the first lines were played
abbrev pub invariant-loop-line : goal.invariant-loop-line
invariant-loop-line l = IsDrivenTo l.trace l.line-index l.player
