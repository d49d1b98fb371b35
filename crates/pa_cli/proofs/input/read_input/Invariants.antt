use Rattle.std.proofs.Common.{◌≡◌, ◌+◌, ◌-◌, ◌≤◌, ◌<◌, length}
use Rattle.std.specs.Io.KnownBytes.{Consumes}
use Rattle.pa_cli.proofs.input.read_input.Given as goal

-- the bytes so far came from the source without a fault, and the buffer has room
abbrev pub invariant-loop-source : goal.invariant-loop-source
invariant-loop-source g l = record {
  given : Consumes (g.S.Source.left l.initial.source) (g.S.Source.left l.source) l.input.items;
  within : length l.input.items ≤ l.most + 1;
  calm : g.S.Source.faults l.source ≡ g.S.Source.faults l.initial.source;
  some_room : 0 < length l.piece.items;
}

abbrev pub decreases-loop-source : goal.decreases-loop-source
decreases-loop-source g l = l.most + 1 - length l.input.items
