use Rattle.std.proofs.Common.{take}
use Rattle.std.specs.List.{AllByRecursion}
use Rattle.pa_record.specs.Bits.{RootInBits}
use Rattle.pa_record.proofs.fits.journals_fit.Given as goal

abbrev pub invariant-loop-journal : goal.invariant-loop-journal
invariant-loop-journal l = AllByRecursion (AllByRecursion RootInBits) (take l.journal-index l.journals)
