use Rattle.std.proofs.Common.{◌≡◌, take}
use Rattle.pa_root.specs.Handing.{numbered_by}
use Rattle.pa_root.proofs.numbers.numbers_seen.Given as goal

-- those before this one are in the batch
abbrev pub invariant-loop-i : goal.invariant-loop-i
invariant-loop-i l = record {
  region : l.seat.region ≡ l.initial.seat.region;
  view : l.seat.view ≡ l.initial.seat.view;
  slots : l.slots ≡ numbered_by l.initial.seat.view (take l.i l.titles);
}
