use Rattle.std.proofs.Common.{take}
use Rattle.std.specs.List.{AllByRecursion}
use Rattle.pa_record.specs.Bits.{CellInBits}
use Rattle.pa_record.proofs.fits.histories_fit.Given as goal

abbrev pub invariant-loop-history : goal.invariant-loop-history
invariant-loop-history l = AllByRecursion (AllByRecursion CellInBits) (take l.history-index l.histories)
