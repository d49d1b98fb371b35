use Rattle.std.proofs.Common.{◌≡◌}
use Rattle.pa_trace.specs.Generated.{generated_lines}
use Rattle.pa_trace.proofs.generator.generate.Given as goal

-- the rounds so far
abbrev pub invariant-loop-round : goal.invariant-loop-round
invariant-loop-round l = l.lines.items ≡ generated_lines l.words.items l.round
