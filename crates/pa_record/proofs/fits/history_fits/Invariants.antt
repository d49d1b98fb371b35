use Rattle.std.proofs.Common.{take}
use Rattle.std.specs.List.{AllByRecursion}
use Rattle.pa_record.specs.Bits.{CellInBits}
use Rattle.pa_record.proofs.fits.history_fits.Given as goal

abbrev pub invariant-loop-entry : goal.invariant-loop-entry
invariant-loop-entry l = AllByRecursion CellInBits (take l.entry-index l.entries)
