use Rattle.std.proofs.Common.{◌≡◌, ◌*◌, ◌≤◌, length}
use Rattle.pa_speed.proofs.read_again.Given as goal

-- the bytes of the rounds so far, each of them at most those that an input may have
abbrev pub invariant-loop : goal.invariant-loop
invariant-loop l = record {
  told : l.total ≡ l.counter * length l.bytes;
  few : l.total ≤ l.counter * 4194304;
}
