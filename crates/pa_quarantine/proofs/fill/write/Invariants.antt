use Rattle.std.proofs.Common.{◌≡◌}
use Rattle.pa_quarantine.specs.Filling.{writes_to}
use Rattle.pa_quarantine.proofs.fill.write.Given as goal

-- the words before this one have the value
abbrev pub invariant-loop-word : goal.invariant-loop-word
invariant-loop-word l = record {
  region : l.seat.region ≡ l.initial.seat.region;
  view : l.seat.view ≡ writes_to l.title l.value l.word l.initial.seat.view;
}
