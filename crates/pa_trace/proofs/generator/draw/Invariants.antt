use Rattle.std.proofs.Common.{◌≡◌, ◌++◌, ◌-◌}
use Rattle.rand_core.specs.Steps.{first_words}
use Rattle.rand_pcg.specs.Pcg.{pcg32}
use Rattle.pa_trace.specs.Generated.{drawn_words}
use Rattle.pa_trace.proofs.generator.draw.Given as goal

-- the words so far, and those that are still to be drawn
abbrev pub invariant-loop : goal.invariant-loop
invariant-loop l =
    l.words.items ++ first_words pcg32 (l.count - l.counter)
    (record { state = l.numbers.state; increment = l.numbers.increment }) ≡ drawn_words l.key l.count
