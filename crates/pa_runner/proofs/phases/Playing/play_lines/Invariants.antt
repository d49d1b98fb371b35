use Rattle.std.proofs.Common.{take, drop}
use Rattle.pa_runner.specs.Playing.{CanPlay, PlaysLines}
use Rattle.pa_runner.proofs.phases.Playing.play_lines.Given as goal

-- the lines before were played, and those from here on can be
abbrev pub invariant-loop-due : goal.invariant-loop-due
invariant-loop-due g l = record {
  can : CanPlay (drop l.due-index l.lines) l.worker;
  played : PlaysLines (take l.due-index l.lines) l.fn.worker l.worker;
}
