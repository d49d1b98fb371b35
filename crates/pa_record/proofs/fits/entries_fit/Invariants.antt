use Rattle.std.proofs.Common.{take}
use Rattle.std.specs.List.{AllByRecursion}
use Rattle.pa_record.specs.Bits.{EntryInBits}
use Rattle.pa_record.proofs.fits.entries_fit.Given as goal

abbrev pub invariant-loop-entry : goal.invariant-loop-entry
invariant-loop-entry l = AllByRecursion EntryInBits (take l.entry-index l.entries)
