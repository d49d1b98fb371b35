-- What the books of a run, its records and the journals of its roots, show in all and on the page of one record.
use Rattle.std.specs.Prelude.{◌≡◌, ℕ, ◌<◌, ◌≤◌, ◌^◌, List, Option, All, length}
use Rattle.pa_slot.specs.declared.word.SlotName.{SlotName}
use Rattle.pa_record.specs.declared.root.RootEntry.{RootEntry}
use Rattle.pa_trace.specs.Limits.{most_partitions}
use Rattle.pa_rules.specs.declared.played.Played.{Played}
use Rattle.pa_rules.specs.RecordDemands.{IsRecord}
use Rattle.pa_rules.specs.Roots.{journal_at}
use Rattle.pa_audit_holders.specs.declared.homes.Home.{Home}
use Rattle.pa_audit_holders.specs.Homes.{HasOneHome, KnowsHomes}
use Rattle.pa_audit_holders.specs.Lines.{KnowsLine}
use Rattle.pa_audit_holders.specs.Rows.{IsOfThreads}

-- a run of a version and of that many partitions, by its records and the journals of its roots
pub record RunBooks : Type 0 where
  pub version : ℕ
  pub partitions : ℕ
  pub records : List Played
  pub roots : List (List RootEntry)

-- What is true of the books, which keep the indices of each line's entries in the journals, and the home of each slot.
--   few_partitions, few, four: there are at most four partitions and four journals, and fewer than 2^32 records
--   within: the records are of at most 16 threads and four partitions, and of the version
--   known: the indices of the entries of each record's line are known
--   homes, kinds: the homes are those of the journals' slots, of which each has one
pub record AreBooks (b : RunBooks) (lines : List (List (List ℕ))) (at : ℕ → Option Home) : Type 0 where
  pub few_partitions : b.partitions ≤ most_partitions
  pub few : length b.records < 2 ^ 32
  pub four : length b.roots ≤ most_partitions
  pub within : All (IsOfThreads b.version) b.records
  pub known : All (λ x. KnowsLine b.roots lines x.line) b.records
  pub homes : KnowsHomes (journal_at b.roots) at
  pub kinds : (s : SlotName) → HasOneHome b.version (journal_at b.roots) s

-- the page of one record: the record, and the version, partitions and journals of its run
pub record RecordPage : Type 0 where
  pub version : ℕ
  pub partitions : ℕ
  pub roots : List (List RootEntry)
  pub told : Played

-- the page of record x in the books
abbrev pub page_of : RunBooks → Played → RecordPage
page_of b x = record { version = b.version; partitions = b.partitions; roots = b.roots; told = x }

-- the line is that of one of the records
abbrev pub IsRecordsLine : List Played → ℕ → Type 0
IsRecordsLine ps line = (i : ℕ) × (x : Played) × IsRecord ps i x × (x.line ≡ line)

-- the record is on the line of one of the books' records, and is of one of 16 threads and four partitions
pub record IsOnPage (b : RunBooks) (x : Played) : Type 0 where
  pub among : IsRecordsLine b.records x.line
  pub within : IsOfThreads b.version x
