use Rattle.pa_runner.proofs.Counted.{AreCounted}
use Rattle.pa_runner.proofs.counting.count_lines.Given as goal

-- the lines before were counted
abbrev pub invariant-loop-line : goal.invariant-loop-line
invariant-loop-line l = AreCounted l.line-index l.lines l.counts
