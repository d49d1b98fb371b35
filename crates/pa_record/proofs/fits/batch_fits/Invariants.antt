use Rattle.std.proofs.Common.{take}
use Rattle.std.specs.List.{AllByRecursion}
use Rattle.pa_record.specs.Bits.{NumberedInBits}
use Rattle.pa_record.proofs.fits.batch_fits.Given as goal

abbrev pub invariant-loop-slot : goal.invariant-loop-slot
invariant-loop-slot l = AllByRecursion NumberedInBits (take l.slot-index l.slots)
