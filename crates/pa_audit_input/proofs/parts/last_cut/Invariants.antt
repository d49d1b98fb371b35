use Rattle.std.proofs.Common.{length}
use Rattle.pa_audit_input.specs.Cutting.{IsBehindLine, IsCutAt}
use Rattle.pa_audit_input.proofs.parts.last_cut.Given as goal

-- that many lines come before the rest, which has a first line
abbrev pub invariant-loop-rest : goal.invariant-loop-rest
invariant-loop-rest l = record {
  cut : IsCutAt (λ line. Unit {0}) l.bytes l.rest l.lines;
  behind : IsBehindLine l.rest l.after;
}

abbrev pub decreases-loop-rest : goal.decreases-loop-rest
decreases-loop-rest l = length l.after
