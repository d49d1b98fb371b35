use Rattle.pa_run_reader.proofs.Slots.{ReadSlots}
use Rattle.pa_run_reader.proofs.root.slots.Given as goal

abbrev pub invariant-loop : goal.invariant-loop
invariant-loop l = ReadSlots l.batch l.rest l.bytes l.counter
