use Rattle.std.proofs.Common.{◌≡◌, take}
use Rattle.pa_trace.specs.Rules.{rules_of}
use Rattle.pa_player.specs.Playing.{rules_at, IsPlaying}
use Rattle.pa_model.proofs.whole.told_of.Given as goal

-- the first lines were played, by the rules of the trace
abbrev pub invariant-loop-line : goal.invariant-loop-line
invariant-loop-line l =
    IsPlaying l.trace.region l.trace.partitions l.trace.threads (take l.line-index l.trace.lines) l.player ×
    (rules_at l.player ≡ rules_of l.trace)
