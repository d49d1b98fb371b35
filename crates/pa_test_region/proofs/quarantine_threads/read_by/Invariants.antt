use Rattle.std.proofs.Common.{◌≡◌}
use Rattle.pa_test_region.specs.Sharing.{StaysUser}
use Rattle.pa_test_region.proofs.quarantine_threads.read_by.Given as goal

-- the reads so far left the handle, the budget, stakes and Owns
abbrev pub invariant-loop : goal.invariant-loop
invariant-loop l = record {
  region : l.seat.region ≡ l.initial.seat.region;
  stays : StaysUser l.title l.initial.seat.view l.seat.view;
}
