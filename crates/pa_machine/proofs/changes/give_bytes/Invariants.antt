use Rattle.std.proofs.Common.{None}
use Rattle.pa_machine.specs.Tables.{IsFilled}
use Rattle.pa_machine.proofs.changes.give_bytes.Given as goal

abbrev pub invariant-loop-byte : goal.invariant-loop-byte
invariant-loop-byte l = IsFilled None l.initial.holders l.start l.byte l.holder l.holders
