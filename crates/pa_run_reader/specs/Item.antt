-- The lines of a run's text, each as the item that it contains.
use Rattle.std.specs.Prelude.{ℕ, ◌<◌, List, codes}
use Rattle.pa_record.specs.Bits.{Is32, EntryInBits, RootInBits, PoolInBits, CellInBits, ReportInBits}
use Rattle.pa_record.specs.RunText.{NamesSlots}
use Rattle.pa_record.specs.Text.{entry_text, root_text, pool_text, cell_text, report_text}
use Rattle.pa_trace.specs.Limits.{cell_count, most_partitions}
use Rattle.pa_run_reader.specs.declared.item.Item.{Item}
use Rattle.pa_run_reader.specs.declared.item.Item.TheVariants.{Head, Record, Root, Pool, Cell, Report, End}

-- the item's line, with its LF
abbrev pub item_text : Item → List ℕ
item_text Head = codes "run 1\n"
item_text (Record entry) = entry_text entry
item_text (Root partition index entry) = root_text partition index entry
item_text (Pool index entry) = pool_text index entry
item_text (Cell cell index entry) = cell_text cell index entry
item_text (Report line) = report_text line
item_text End = codes "end\n"

-- An item fits if each of its numbers but the index has the bits of its type, its partition is below 4 and its cell below 64,
-- and a fill or a give names 1 to 16 slots.
abbrev pub FitsItem : Item → Type 0
FitsItem Head = Unit {0}
FitsItem (Record entry) = EntryInBits entry
FitsItem (Root partition index entry) = (partition < most_partitions) × RootInBits entry × NamesSlots entry.act
FitsItem (Pool index entry) = PoolInBits entry
FitsItem (Cell cell index entry) = (cell < cell_count) × CellInBits entry
FitsItem (Report line) = ReportInBits line
FitsItem End = Unit {0}

-- the item's index, which is 0 if it has none
abbrev pub index_of : Item → ℕ
index_of (Root partition index entry) = index
index_of (Pool index entry) = index
index_of (Cell cell index entry) = index
index_of other = 0

-- all numbers have the bits of their types
abbrev pub ItemInBits : Item → Type 0
ItemInBits i = FitsItem i × Is32 (index_of i)
