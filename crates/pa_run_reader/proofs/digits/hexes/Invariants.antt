use Rattle.std.proofs.Common.{◌≡◌, Some}
use Rattle.pa_text.specs.Reading.{hexes_at}
use Rattle.pa_run_reader.proofs.digits.hexes.Given as goal

abbrev pub invariant-loop : goal.invariant-loop
invariant-loop l = hexes_at l.counter l.bytes ≡ Some (l.value, l.rest)
