use Rattle.std.proofs.Common.{◌≡◌}
use Rattle.pa_quarantine.specs.Filling.{zeros_to}
use Rattle.pa_quarantine.proofs.fill.zero_fill.Given as goal

-- the words before this one are 0
abbrev pub invariant-loop-word : goal.invariant-loop-word
invariant-loop-word l = record {
  region : l.seat.region ≡ l.initial.seat.region;
  view : l.seat.view ≡ zeros_to l.title l.word l.initial.seat.view;
}
