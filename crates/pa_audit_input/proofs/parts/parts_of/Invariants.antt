use Rattle.std.proofs.Common.{◌≡◌, length}
use Rattle.pa_audit_input.specs.Input.{run_line}
use Rattle.pa_audit_input.specs.Cutting.{IsCutAt}
use Rattle.pa_audit_input.proofs.parts.parts_of.Given as goal

-- that many lines come before the rest, and none of them is `run 1`
abbrev pub invariant-loop-rest : goal.invariant-loop-rest
invariant-loop-rest l = IsCutAt (λ line. line ≡ run_line → ⊥) l.bytes l.rest l.lines

abbrev pub decreases-loop-rest : goal.decreases-loop-rest
decreases-loop-rest l = length l.rest
