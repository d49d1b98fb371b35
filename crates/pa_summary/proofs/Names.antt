-- The text of an answer begins with its name.
use Rattle.std.proofs.Common.{[], refl}
use Rattle.pa_record.specs.declared.entry.Answer.TheVariants.{Made, Done, Value, Dangling, SecondFree, NotOwner, StaleReset, StaleUse, Nothing, Filled, NotRef, Shared, OutOfRange, TooLarge, Full, Swapped, Purged, Uncounted}
use Rattle.pa_summary.specs.SummaryText.{NamesAreOfRecords}

pub names_of_records : NamesAreOfRecords
names_of_records (Made seen usable) = (_, refl)
names_of_records (Done seen) = (_, refl)
names_of_records (Value seen value) = (_, refl)
names_of_records (Dangling seen value) = (_, refl)
names_of_records (SecondFree seen) = (_, refl)
names_of_records (NotOwner seen) = (_, refl)
names_of_records StaleReset = ([], refl)
names_of_records (StaleUse seen) = (_, refl)
names_of_records Nothing = ([], refl)
names_of_records Filled = ([], refl)
names_of_records NotRef = ([], refl)
names_of_records (Shared seen) = (_, refl)
names_of_records OutOfRange = ([], refl)
names_of_records TooLarge = ([], refl)
names_of_records (Full entry) = (_, refl)
names_of_records (Swapped entry) = (_, refl)
names_of_records (Purged slots) = (_, refl)
names_of_records Uncounted = ([], refl)
