use Rattle.std.proofs.Common.{◌≡◌, drop, max}
use Rattle.pa_summary.specs.SummaryText.{last_phase}
use Rattle.pa_summary.proofs.sums.phase_of.Given as goal

-- the greatest of the phase so far and the phases of the lines that are left is that of all lines
abbrev pub invariant-loop-line : goal.invariant-loop-line
invariant-loop-line l = max l.phase (last_phase (drop l.line-index l.report)) ≡ last_phase l.report
