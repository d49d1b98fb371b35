-- The partition and the bytes of each slot, by the table of the slots' homes.
use Rattle.std.specs.Prelude.{ℕ, Option, Some, None}
use Rattle.pa_slot.specs.declared.word.SlotName.{SlotName}
use Rattle.pa_audit_holders.specs.declared.homes.Home.{Home}
use Rattle.pa_audit_holders.specs.Homes.{home_at}

-- the partition of a slot of this home, and 4 if it has none
abbrev pub partition_by : Option Home → ℕ
partition_by None = 4
partition_by (Some h) = h.partition

-- the bytes of a slot of this home, and 0 if it has none
abbrev pub bytes_by : Option Home → ℕ
bytes_by None = 0
bytes_by (Some h) = h.bytes

-- the partition of slot s by the table, and 4 if it has no home there
abbrev pub home_in : (ℕ → Option Home) → SlotName → ℕ
home_in at s = partition_by (home_at at s)

-- the bytes of slot s by the table, and 0 if it has no home there
abbrev pub size_in : (ℕ → Option Home) → SlotName → ℕ
size_in at s = bytes_by (home_at at s)
